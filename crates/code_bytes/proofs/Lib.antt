pub mod Walk
pub mod Lengths
pub mod Whole
pub mod Examples
