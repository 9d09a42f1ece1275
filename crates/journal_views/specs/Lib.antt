pub mod Journals
pub mod Laws
