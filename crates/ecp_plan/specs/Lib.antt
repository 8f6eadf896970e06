pub mod Choice
pub mod Order
pub mod Plans
pub mod Turns
