pub mod Limits
pub mod Codes
pub mod Types
pub mod Kinds
pub mod Changes
pub mod Entry
pub mod Taking
pub mod Fitting
pub mod Ranges
pub mod Handing
pub mod Asked
pub mod Leaves
pub mod Flow
pub mod Tables
pub mod Headers
pub mod Endings
pub mod Calls
pub mod Breaks
pub mod StackNumbers
pub mod Example
pub use Rattle.call_groups.specs as call_groups
pub use Rattle.cell_code.specs as cell_code
