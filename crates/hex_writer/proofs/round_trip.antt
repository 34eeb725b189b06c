pub mod Characters
pub mod Lines
pub mod Records
pub mod RoundTrip
