pub mod Pairs
pub mod Team
pub mod Driven
pub mod Closed
