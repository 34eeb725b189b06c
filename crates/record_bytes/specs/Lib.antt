pub mod Layout
pub mod Unpacked
