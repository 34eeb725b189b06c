pub mod Texts
pub mod Entering
