mod Walks
mod Searches
pub mod Looks
mod Quiets
mod Reasoned
mod Sums
mod Measures
mod Left
mod DeedLeaves
pub mod LawProofs
