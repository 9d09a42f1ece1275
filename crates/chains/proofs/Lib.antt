pub mod Precedence
pub mod Longest
