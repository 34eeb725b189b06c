mod Alike
pub mod Starting
