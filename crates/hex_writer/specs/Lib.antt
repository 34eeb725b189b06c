pub mod Writer
pub mod RoundTrip
