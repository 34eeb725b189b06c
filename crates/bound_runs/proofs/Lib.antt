pub mod Lines
pub mod Standing
pub mod Rows
pub mod Steps
pub mod Buffers
pub mod Runs
pub mod Demand
pub mod EndsByCall
