pub mod Interrupting
pub mod WithValid
pub mod Range
pub mod Places
pub mod Levels
pub mod StackValid
pub mod StackReturns
