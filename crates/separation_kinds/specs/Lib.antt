pub mod Meanings
pub use Rattle.code_rules.specs.call_groups as call_groups
pub use Rattle.machine_semantics.specs.cell_code as cell_code
pub use Rattle.code_rules.specs as code_rules
pub use Rattle.machine_semantics.specs.fip_base as fip_base
pub use Rattle.machine_semantics.specs.fip_language as fip_language
pub use Rattle.machine_semantics.specs as machine_semantics
