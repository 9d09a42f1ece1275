pub mod Waiting
pub mod Blocks
pub mod Watching
pub mod Owing
pub mod Keepers
pub mod Tallying
pub mod Laws
