pub mod Cutting
pub mod Spacing
pub mod Parting
pub mod Hearing
pub mod Ending
pub mod Naming
