pub mod Traced
pub mod Taped
