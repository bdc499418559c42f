pub mod Loading
pub mod TraceFile
pub mod TraceText
pub mod TraceReading
pub mod Replaying
pub mod Writable
pub mod Example
pub use Rattle.tree_refinement.specs.cell_code as cell_code
pub use Rattle.tree_refinement.specs.code_rules as code_rules
pub use Rattle.tree_refinement.specs.fip_base as fip_base
pub use Rattle.tree_refinement.specs.fip_language as fip_language
pub use Rattle.tree_refinement.specs.machine_semantics as machine_semantics
pub use Rattle.tree_refinement.specs.separation as separation
pub use Rattle.tree_refinement.specs.separation_kinds as separation_kinds
pub use Rattle.tree_refinement.specs as tree_refinement
pub use Rattle.tree_refinement.specs.tree_semantics as tree_semantics
