pub mod Lists
pub mod OfPlan
pub mod LawProofs
