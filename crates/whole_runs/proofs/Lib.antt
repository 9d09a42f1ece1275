pub mod Ends
pub mod InRounds
pub mod ByThreads
