pub mod Arrived
pub mod Took
