pub mod Going
pub mod Answering
pub mod Rest
pub mod AsBefore
pub mod StaysValid
