pub mod BottleMoves
pub mod AddedSets
pub mod AllAtOnce
pub mod Subsets
pub mod Groups
