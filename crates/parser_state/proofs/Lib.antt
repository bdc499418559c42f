pub mod Rows
pub mod StateFacts
pub mod StepFacts
pub mod TooLarge
