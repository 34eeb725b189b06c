pub mod Reading
pub mod Flow
