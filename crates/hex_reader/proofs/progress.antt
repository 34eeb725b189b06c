pub mod Advancing
pub mod Numbers
pub mod Stops
