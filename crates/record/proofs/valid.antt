pub mod Validity
pub mod OneAnswer
