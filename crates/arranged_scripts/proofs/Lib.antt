pub mod Arranged
pub mod Cut
pub mod Lines
pub mod OneCut
