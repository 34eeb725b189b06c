pub mod Some
pub mod Holding
pub mod Taking
