pub mod Eights
pub mod values
