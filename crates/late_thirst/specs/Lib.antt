pub mod Outside
pub mod LettingIn
pub mod Lines
pub mod Overtaking
