pub mod Spells
pub mod Codes
pub mod Answers
pub mod RoundTrip
