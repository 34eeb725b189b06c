pub mod Choice
pub mod Decides
pub mod Among
