pub mod Stops
pub mod WithCell
