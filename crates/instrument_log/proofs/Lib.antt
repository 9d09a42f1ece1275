pub mod EntryLemmas
pub mod LogLemmas
pub mod PartLemmas
pub mod WholeLemmas
