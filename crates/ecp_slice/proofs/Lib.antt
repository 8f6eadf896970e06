pub mod Bits
pub mod FullMessages
mod Handles
pub mod OneFiles
pub mod PartialSums
pub mod Receipts
pub mod SameVecs
pub mod SetOnce
pub mod SliceParts
pub mod SoundMessages
pub mod StripeData
pub mod Visits
