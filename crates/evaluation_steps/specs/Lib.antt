pub mod Gives
pub mod Sums
