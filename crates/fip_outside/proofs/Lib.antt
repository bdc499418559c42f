pub mod Named
pub mod Stored
pub mod Turns
