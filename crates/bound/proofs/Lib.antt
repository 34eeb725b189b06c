pub mod Answers
pub mod Unique
pub mod Lengths
pub mod Sizes
