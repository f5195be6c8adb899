pub mod shade
pub mod etc1
pub mod fields
pub mod planar
pub mod etc2
