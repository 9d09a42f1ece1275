pub mod Doing
pub mod InHand
pub mod Players
pub mod Traces
pub mod StepsOf
