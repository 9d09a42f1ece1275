pub mod Handles
pub mod Telling
pub mod Closing
pub mod Calls
pub mod Journals
pub mod Coming
pub mod Openings
