pub mod Cycles
pub mod Peeling
pub mod Walks
pub mod Rankings
