pub mod Cells
pub mod Matrix
pub mod Rows
