pub mod Shared
pub mod Amounts
pub mod Rows
pub mod Sets
pub mod Steps
pub mod Whole
