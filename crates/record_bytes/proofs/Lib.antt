pub mod Numbers
pub mod Parts
pub mod Tells
pub mod Unpacking
