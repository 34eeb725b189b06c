pub mod Ways
pub mod Settled
pub mod Routes
pub mod Answers
pub mod Calls
pub mod Parts
