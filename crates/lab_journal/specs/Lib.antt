pub mod Rooms
pub mod Taking
pub mod Room
pub mod Meaning
pub mod Resumed
pub mod Finishing
pub mod Laws
pub mod Writing
