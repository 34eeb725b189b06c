pub mod Sequence
pub mod Account
