pub mod baking
pub mod nearest
pub mod indices
