pub mod Rows
pub mod Codes
pub mod Alive
pub mod Starts
pub use Rattle.separation_kinds.specs.call_groups as call_groups
pub use Rattle.separation_kinds.specs.cell_code as cell_code
pub use Rattle.separation_kinds.specs.code_rules as code_rules
pub use Rattle.separation_kinds.specs.fip_base as fip_base
pub use Rattle.separation_kinds.specs.fip_language as fip_language
pub use Rattle.separation_kinds.specs.machine_semantics as machine_semantics
pub use Rattle.separation_kinds.specs as separation_kinds
