pub mod Counted
pub mod Entries
pub mod Held
pub mod Items
pub mod Nodes
pub mod Receipts
pub mod Shelves
