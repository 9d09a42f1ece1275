pub mod Answers
pub mod Flags
pub mod Numbers
pub mod Leaves
pub mod Tops
pub mod Walks
pub mod Programs
