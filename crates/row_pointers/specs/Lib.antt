pub mod Groups
pub mod Pointed
pub mod FromRom
