pub mod Ahead
pub mod Pairs
pub mod TeamTurns
pub mod AnyOrder
pub mod RestTurns
pub mod Sorting
pub mod ClosedTurns
