pub mod Better
pub mod PutBack
pub mod OneMeasure
pub mod Ordered
pub mod Picked
