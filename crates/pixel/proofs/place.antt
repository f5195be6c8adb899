pub mod Grid
pub mod Plain
pub mod Tile
