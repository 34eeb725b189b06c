pub mod Quiet
pub mod Groups
pub mod Weighs
