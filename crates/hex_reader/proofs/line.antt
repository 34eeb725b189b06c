pub mod Pairs
pub mod Characters
pub mod Records
