pub mod Hexadecimal
pub mod Digits
pub mod Words
pub mod Same
pub mod Script
pub mod Refusal
