pub mod Places
pub mod Steps
pub mod Rows
pub mod Columns
pub mod Turns
