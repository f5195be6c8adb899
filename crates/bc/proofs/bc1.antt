pub mod Colours
pub mod Shown
