pub mod Padding
pub mod Steps
pub mod Joined
pub mod OneAnswer
