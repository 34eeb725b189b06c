pub mod Sources
pub mod Reasons
pub mod Answering
pub mod Accepting
