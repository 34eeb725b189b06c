pub mod Steps
pub mod Telling
