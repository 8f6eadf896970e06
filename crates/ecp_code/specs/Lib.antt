pub mod Code
pub mod Rows
pub mod Stripes
pub mod Weights
