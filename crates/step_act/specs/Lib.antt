pub mod Act
pub mod Runs
