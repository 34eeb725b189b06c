pub mod CallFlow
pub mod Ways
pub mod CallAnswer
pub mod OldAnswer
