pub mod Painted
pub mod Kinds
pub mod Sorted
