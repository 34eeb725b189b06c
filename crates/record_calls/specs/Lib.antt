pub mod Calls
pub mod Why
pub mod Compare
