pub mod OurLines
pub mod Fields
pub mod Nexting
pub mod Going
pub mod Whole
pub mod AnyCutting
pub mod Exactly
