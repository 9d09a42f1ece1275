pub mod Causes
pub mod BottleMoves
