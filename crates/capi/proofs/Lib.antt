pub mod Unique
pub mod Counted
