pub mod Handles
pub mod Telling
pub mod Calls
