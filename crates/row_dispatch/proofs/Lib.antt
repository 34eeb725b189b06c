pub mod Sorting
pub mod Packing
pub mod Arms
