pub mod Use
pub mod Waits
pub mod Serving
