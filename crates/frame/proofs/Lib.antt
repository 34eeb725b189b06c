pub mod Sizes
pub mod Characters
pub mod Sequence
pub mod Alike
pub mod Judging
pub mod First
