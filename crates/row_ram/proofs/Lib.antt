pub mod Absent
pub mod Around
