pub mod Measures
pub mod Orders
