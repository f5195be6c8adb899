pub mod Range
pub mod Within
pub mod Predicted
pub mod Unique
