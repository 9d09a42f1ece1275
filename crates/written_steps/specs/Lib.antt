pub mod ReadBack
pub mod StepLists
pub mod Added
