pub mod Sound
pub mod Answers
pub mod Random
pub mod Advance
pub mod Jump
