pub mod Losses
pub mod Range
