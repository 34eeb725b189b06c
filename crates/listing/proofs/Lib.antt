pub mod Cycles
pub mod Telling
pub mod Feeding
pub mod Parts
pub mod Examples
pub mod AsBefore
