pub mod Spelling
pub mod CodeText
pub mod Written
pub mod Reading
