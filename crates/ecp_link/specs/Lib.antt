pub mod Links
pub mod Among
pub mod Queued
pub mod Rings
pub mod Delivering
