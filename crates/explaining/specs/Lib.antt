pub mod CauseTexts
pub mod StateTexts
pub mod MoveTexts
pub mod Explanations
