mod Phases
mod Lists
mod InLab
mod Turns
mod Bits
mod Sayings
mod Clocks
mod Tests
mod Sessions
mod Reported
mod Asked
mod Admitted
pub mod Frames
mod Lawful
mod AtOnce
mod Retirement
pub mod Staying
mod Told
mod Waited
mod Counted
mod Lacking
pub mod LongerLabs
mod Owing
mod BitsOf
mod Passed
