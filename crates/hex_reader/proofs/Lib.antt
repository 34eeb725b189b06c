pub mod Refusals
pub mod Midway
pub mod Answers
