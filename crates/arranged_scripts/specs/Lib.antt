pub mod Arranged
pub mod Blocks
pub mod Cutting
