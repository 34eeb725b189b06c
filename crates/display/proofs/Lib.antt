pub mod Bytes
pub mod Dots
pub mod Shows
pub mod Answers
