pub mod Packed
pub mod Numbering
