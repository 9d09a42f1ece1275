pub mod Words
pub mod WordCodec
pub mod Moves
pub mod Phases
pub mod PhaseCodec
pub mod Table
pub mod WordLaws
