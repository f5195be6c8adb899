pub mod Shown
pub mod records
pub mod first
pub mod later
pub mod write
pub mod find
