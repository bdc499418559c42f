pub mod Symbols
pub mod Bridge
pub mod OneValue
pub mod CellsKept
