pub mod Making
pub mod Flags
