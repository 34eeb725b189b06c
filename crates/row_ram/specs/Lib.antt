pub mod Groups
pub mod Cells
