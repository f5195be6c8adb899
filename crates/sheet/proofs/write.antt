pub mod Copied
pub mod Owes
