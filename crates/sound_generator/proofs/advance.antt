pub mod Jumping
pub mod Advancing
