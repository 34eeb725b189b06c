pub mod Cuts
pub mod Along
pub mod Ends
pub mod Sessions
pub mod Answers
pub mod AnyCutting
pub mod RunAsWhole
pub mod OneAnswer
