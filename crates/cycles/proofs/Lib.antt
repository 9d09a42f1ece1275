pub mod Fewer
pub mod Turning
pub mod Pairs
pub mod Peeled
pub mod Paths
pub mod Ranked
