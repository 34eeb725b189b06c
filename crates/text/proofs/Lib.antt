pub mod Lent
pub mod digits
