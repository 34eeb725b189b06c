pub mod ActValid
pub mod Acting
pub mod Stops
