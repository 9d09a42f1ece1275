pub mod Spans
pub mod Timelines
pub mod Orders
pub mod Faults
pub mod Clean
pub mod TwoSlots
