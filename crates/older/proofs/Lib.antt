pub mod Turn
pub mod Place
pub mod Counts
