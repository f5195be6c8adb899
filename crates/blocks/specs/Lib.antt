pub mod Run
pub mod Colour
