pub mod Bytes
pub mod Bands
pub mod Whole
pub mod Scanned
