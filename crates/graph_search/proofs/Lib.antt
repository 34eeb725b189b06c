pub mod Zeros
pub mod Grown
pub mod Search
pub mod LowestOf
