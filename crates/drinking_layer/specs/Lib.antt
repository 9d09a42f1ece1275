pub mod Local
pub mod Bottles
pub mod Exchanging
