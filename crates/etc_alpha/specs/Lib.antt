pub mod picks
pub mod channel
