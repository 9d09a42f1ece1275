pub mod Doing
pub mod Left
pub mod Resting
pub mod Attending
pub mod Longer
pub mod Visiting
pub mod Members
