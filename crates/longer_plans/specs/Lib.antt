pub mod Longer
pub mod OneMore
