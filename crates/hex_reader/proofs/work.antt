pub mod Puts
pub mod Fills
