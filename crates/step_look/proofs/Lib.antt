pub mod Ranges
pub mod Looking
pub mod LookValid
