pub mod Groups
pub mod Performs
