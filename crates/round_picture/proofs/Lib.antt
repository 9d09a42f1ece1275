pub mod Within
pub mod Pieces
pub mod Narrow
