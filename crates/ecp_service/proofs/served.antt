-- The proofs that a run over nodes is a run of a plain table.
pub mod Lists
pub mod Kept
pub mod Parts
pub mod Fronts
pub mod Passes
pub mod Groups
pub mod Callers
pub mod Entries
pub mod Pasts
pub mod Fits
pub mod Inputs
pub mod Points
pub mod Stripes
pub mod Runs
pub mod Texts
pub mod NoNodes
