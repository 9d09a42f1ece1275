pub mod Ranking
pub mod Sums
pub mod Text
pub mod Largest
pub mod Falling
