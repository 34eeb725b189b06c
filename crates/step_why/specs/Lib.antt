pub mod Why
pub mod Answers
pub mod Accepting
