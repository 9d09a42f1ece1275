pub mod Logs
pub mod Rooms
