pub mod Open
pub mod Way
pub mod Deep
pub mod Paths
