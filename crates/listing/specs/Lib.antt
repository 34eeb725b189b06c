pub mod Listing
pub mod Tells
pub mod Before
pub mod Lines
