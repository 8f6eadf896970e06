-- The plain table.
pub mod Placement
pub mod Tables
pub mod Steps
pub mod Rising
pub mod Changes
pub mod Kept
