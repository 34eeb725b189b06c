pub mod Settling
pub mod Known
pub mod Choosing
pub mod Choice
