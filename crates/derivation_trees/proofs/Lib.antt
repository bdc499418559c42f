pub mod Places
pub mod Altering
pub mod Opening
