pub mod Alone
pub mod Beside
pub mod Blocks
pub mod Colour
pub mod First
pub mod Formats
pub mod Runs
