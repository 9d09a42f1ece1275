pub mod Groups
pub mod Rule
pub mod Grow
pub mod Seating
pub mod PhaseEvents
