pub mod Retired
pub mod Stays
pub mod States
pub mod Once
pub mod Rooms
