pub mod Dial
pub mod Entries
pub mod Parts
pub mod InstrumentLog
pub mod Packed
