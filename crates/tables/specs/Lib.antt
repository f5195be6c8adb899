pub mod consts
pub mod products
