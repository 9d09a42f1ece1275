pub mod Quiet
pub mod Reasons
pub mod Deeds
pub mod Laws
