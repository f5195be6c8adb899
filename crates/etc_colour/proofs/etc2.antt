pub mod Steps
pub mod Colours
