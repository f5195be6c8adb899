pub mod Guard
pub mod Viewed
pub mod Room
