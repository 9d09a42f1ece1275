pub mod Crosses
pub mod Whys
