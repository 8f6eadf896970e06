pub mod Generated
pub mod Input
pub mod Words
pub mod Soak
