pub mod place
