pub mod OneAnswer
pub mod Chunks
pub mod BytesRun
