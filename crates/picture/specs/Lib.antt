pub mod Looks
pub mod Columns
pub mod Boxes
pub mod Tables
pub mod Picture
pub mod LogTable
