pub mod Mnemonics
pub mod Widths
