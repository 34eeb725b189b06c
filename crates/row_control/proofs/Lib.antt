pub mod Calling
pub mod Pairs
pub mod Returning
