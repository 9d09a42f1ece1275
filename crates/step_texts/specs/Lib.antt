pub mod Names
pub mod StepTexts
