pub mod Catalogs
pub mod Standing
pub mod Losses
pub mod LostBlocks
pub mod Kept
pub mod Outline
pub mod Stamps
