pub mod Shown
pub mod Counts
pub mod Scripts
pub mod Replaying
pub mod Replays
pub mod Shared
pub mod Tasks
