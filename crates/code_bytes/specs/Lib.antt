pub mod Widths
pub mod Operands
pub mod Bytes
