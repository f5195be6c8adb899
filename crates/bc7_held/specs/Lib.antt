pub mod Sixteen
pub mod bits
