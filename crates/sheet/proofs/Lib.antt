pub mod Formats
pub mod Sizes
pub mod Checks
pub mod Shown
pub mod Decided
pub mod Unique
