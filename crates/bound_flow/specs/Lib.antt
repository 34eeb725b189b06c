pub mod Flow
pub mod Bound
