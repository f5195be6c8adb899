pub mod Lanes
pub mod Rows
pub mod Checked
