pub mod Groups
pub mod Latches
pub mod Turns
