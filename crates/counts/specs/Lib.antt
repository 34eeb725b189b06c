pub mod Counts
pub mod Weights
pub mod CountedAnswer
pub mod Unrolled
pub mod Radix
pub mod CountedRuns
pub mod Searches
pub mod Laying
