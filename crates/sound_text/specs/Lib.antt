pub mod Telling
pub mod Feeding
pub mod Commands
pub mod Entry
