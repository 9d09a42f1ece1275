pub mod Overtaking
pub mod Stuck
pub mod Laws
pub mod Ways
pub mod Rankings
