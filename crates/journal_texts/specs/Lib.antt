pub mod Texts
pub mod More
pub mod Sums
pub mod Additions
pub mod Lines
pub mod Parts
pub mod Reading
