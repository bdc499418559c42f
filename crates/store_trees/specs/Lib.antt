pub mod GivenUp
pub mod Added
pub mod Walked
