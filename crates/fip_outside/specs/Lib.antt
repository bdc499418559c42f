pub mod Entries
pub mod Faults
pub mod Files
pub mod Objects
pub mod Takes
