pub mod Steps
pub mod Live
pub mod Lasts
pub mod Events
pub mod Shown
pub mod Reported
pub mod Traces
pub mod Writing
