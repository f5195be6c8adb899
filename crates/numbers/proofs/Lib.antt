pub mod Little
pub mod Big
pub mod Stores
