pub mod Places
pub mod Adding
pub mod Narrow
pub mod LogLines
