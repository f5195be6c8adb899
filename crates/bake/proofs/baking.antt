pub mod Least
pub mod Sums
pub mod Each
pub mod Near
pub mod Bits
pub mod Bases
pub mod Block
