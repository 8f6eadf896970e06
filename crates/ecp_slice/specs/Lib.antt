pub mod CancelWords
pub mod Cancels
pub mod MessageParts
pub mod Messages
pub mod OneFile
pub mod Sound
