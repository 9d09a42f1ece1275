pub mod ForkMoves
pub mod Trying
pub mod Turning
