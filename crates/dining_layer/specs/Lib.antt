pub mod Forks
pub mod Tries
pub mod Turned
