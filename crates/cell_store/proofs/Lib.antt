pub mod Parsed
pub mod Rowed
pub mod Marked
pub mod Freed
pub mod Keeps
