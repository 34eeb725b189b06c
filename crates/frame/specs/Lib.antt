pub mod Frame
pub mod Judged
