pub mod ComesBack
pub mod Numbered
pub mod Sizes
