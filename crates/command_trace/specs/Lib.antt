pub mod RunTrace
pub mod TraceAnswer
pub mod Replayed
