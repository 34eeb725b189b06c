pub mod Answers
pub mod Help
pub mod Spans
pub mod Words
