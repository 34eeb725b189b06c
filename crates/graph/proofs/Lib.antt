pub mod Reach
pub mod Pigeon
pub mod Unique
pub mod Agree
pub mod HasPath
pub mod Length
