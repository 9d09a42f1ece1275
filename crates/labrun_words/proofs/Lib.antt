pub mod ByClap
pub mod MayRun
