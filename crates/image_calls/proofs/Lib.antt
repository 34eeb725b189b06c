pub mod Answers
pub mod Ordered
pub mod Goes
pub mod OneAnswer
