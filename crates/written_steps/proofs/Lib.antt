pub mod WrittenLines
pub mod NamesBack
pub mod SetsBack
pub mod DarkNames
pub mod StepTexts
pub mod TextLines
pub mod ListsBack
pub mod Pasted
