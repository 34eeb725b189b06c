pub mod Operands
pub mod Pane
pub mod Numbers
pub mod Write
