pub mod Marking
pub mod Choosing
