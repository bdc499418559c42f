pub mod Tasks
pub mod Pausing
pub mod Machines
pub mod GaugeView
pub mod Ending
pub mod Along
pub mod Traces
pub mod Taped
pub use Rattle.cell_code.specs as cell_code
pub use Rattle.cell_store.specs as cell_store
pub use Rattle.machine_step.specs.code_verify as code_verify
pub use Rattle.fip_language.specs as fip_language
pub use Rattle.machine_cells.specs as machine_cells
pub use Rattle.machine_step.specs as machine_step
