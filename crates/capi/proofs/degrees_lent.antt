pub mod Unique
pub mod Others
