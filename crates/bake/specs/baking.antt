pub mod Chosen
pub mod Four
