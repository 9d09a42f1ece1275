pub mod Prefixes
pub mod OfPlan
pub mod OneReport
pub mod EventReport
