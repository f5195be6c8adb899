pub mod Wrap
pub mod Steps
