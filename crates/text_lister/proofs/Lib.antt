pub mod Bytes
pub mod Costs
pub mod Sweeps
pub mod Examples
