pub mod ByteReads
pub mod Equal
