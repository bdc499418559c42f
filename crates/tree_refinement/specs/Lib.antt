pub mod Endings
pub mod Agreement
pub mod Runs
pub mod Alike
pub mod LentValues
pub use Rattle.separation_bounds.specs.call_groups as call_groups
pub use Rattle.separation_bounds.specs.cell_code as cell_code
pub use Rattle.separation_bounds.specs.code_rules as code_rules
pub use Rattle.separation_bounds.specs.fip_base as fip_base
pub use Rattle.tree_semantics.specs.fip_language as fip_language
pub use Rattle.tree_semantics.specs.machine_semantics as machine_semantics
pub use Rattle.separation_bounds.specs.separation as separation
pub use Rattle.separation_bounds.specs.separation_kinds as separation_kinds
pub use Rattle.tree_semantics.specs as tree_semantics
