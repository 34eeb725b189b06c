pub mod Cut
pub mod Carries
pub mod Run
pub mod Kept
