pub mod Decimals
pub mod Generating
pub mod Inputs
pub mod Soaking
pub mod WordLists
