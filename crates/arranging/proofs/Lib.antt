pub mod Orders
pub mod Chains
pub mod Colourings
pub mod Arrangements
