pub mod Answers
pub mod Command
pub mod Ends
pub mod Grammar
pub mod Reading
