pub mod ActsDue
pub mod Turn
pub mod Grown
pub mod Retired
