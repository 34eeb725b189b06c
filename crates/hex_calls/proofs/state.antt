pub mod Words
pub mod Packed
pub mod Ranges
