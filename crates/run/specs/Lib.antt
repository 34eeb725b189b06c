pub mod Run
pub mod Before
pub mod Answers
pub mod StaysValid
