pub mod Computed
pub mod Decided
pub mod Among
pub mod Choices
