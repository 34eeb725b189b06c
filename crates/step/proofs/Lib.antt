pub mod Stepping
pub mod StepValid
pub mod AsBefore
pub mod Answering
