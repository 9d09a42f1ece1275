pub mod ByClap
