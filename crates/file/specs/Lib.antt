pub mod lent
