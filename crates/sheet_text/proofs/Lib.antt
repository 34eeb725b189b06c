pub mod Table
pub mod Sections
