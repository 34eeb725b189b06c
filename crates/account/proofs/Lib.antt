pub mod Multiples
pub mod Turns
pub mod Steps
pub mod Accounts
pub mod OfRuns
