pub mod Display
pub mod Bytes
