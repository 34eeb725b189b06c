pub mod Holding
pub mod Completing
