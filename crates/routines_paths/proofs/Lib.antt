pub mod Open
pub mod Fits
