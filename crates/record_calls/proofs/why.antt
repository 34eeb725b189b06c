pub mod Handing
pub mod OneAnswer
