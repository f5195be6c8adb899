pub mod Promise
pub mod Order
