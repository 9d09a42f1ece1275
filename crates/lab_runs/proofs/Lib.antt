pub mod Shown
pub mod CountSums
pub mod UpgradeStable
pub mod Replayed
pub mod SharedRuns
