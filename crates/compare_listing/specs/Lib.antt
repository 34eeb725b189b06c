pub mod Compared
pub mod Progress
pub mod Session
pub mod Exactly
