pub mod Limits
pub mod Codes
pub mod Words
pub mod Cells
pub mod Trees
pub mod States
pub mod Rows
pub mod Steps
pub mod Runs
pub mod Gauges
pub mod Given
pub mod Apart
pub mod Kept
pub mod Traces
pub mod Example
pub use Rattle.cell_code.specs as cell_code
pub use Rattle.cell_code.specs.fip_base as fip_base
pub use Rattle.cell_code.specs.fip_language as fip_language
