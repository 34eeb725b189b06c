pub mod Graph
pub mod Laid
