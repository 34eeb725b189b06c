pub mod Step
pub mod Before
pub mod Advance
pub mod Answers
pub mod Apart
