pub mod Passing
pub mod Gone
pub mod Fewer
pub mod Overtaken
pub mod Among
pub mod NextIn
pub mod Those
