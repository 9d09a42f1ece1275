pub mod Scale
pub mod Shapes
pub mod Meals
pub mod Keepers
pub mod Sessions
pub mod Gantt
