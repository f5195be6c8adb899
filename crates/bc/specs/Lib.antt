pub mod bc1
pub mod alpha_lanes
