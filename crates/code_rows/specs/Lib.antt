pub mod Noting
pub mod Numbering
pub mod Placing
pub mod Rows
pub use Rattle.register_kinds.specs as register_kinds
