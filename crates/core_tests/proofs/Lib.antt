pub mod FirstEntry
