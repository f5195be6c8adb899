pub mod Steps
pub mod Fetch
