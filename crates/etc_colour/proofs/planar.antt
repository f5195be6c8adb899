pub mod Fold
pub mod Machine
