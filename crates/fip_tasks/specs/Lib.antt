pub mod Turns
pub mod Gauged
pub mod Shown
pub mod Landing
pub mod Followed
pub use Rattle.fip_machine.specs.cell_code as cell_code
pub use Rattle.code_verify.specs as code_verify
pub use Rattle.fip_base.specs as fip_base
pub use Rattle.fip_language.specs as fip_language
pub use Rattle.fip_machine.specs as fip_machine
pub use Rattle.fip_machine.specs.machine_cells as machine_cells
pub use Rattle.task_semantics.specs.machine_semantics as machine_semantics
pub use Rattle.fip_machine.specs.machine_step as machine_step
pub use Rattle.task_semantics.specs as task_semantics
