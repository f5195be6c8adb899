pub mod Alphas
