pub mod Colours
pub mod Chains
pub mod Reordered
