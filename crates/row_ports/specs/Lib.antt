pub mod Groups
pub mod Ends
pub mod Ported
