pub mod Notation
pub mod Names
