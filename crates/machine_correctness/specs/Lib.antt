pub mod Ended
pub mod Starts
pub mod Meant
pub mod Gauges
pub use Rattle.compiler_correctness.specs.call_groups as call_groups
pub use Rattle.compiler_correctness.specs.cell_lower as cell_lower
pub use Rattle.compiler_correctness.specs.code_file as code_file
pub use Rattle.run_loading.specs.code_rules as code_rules
pub use Rattle.compiler_correctness.specs.derivation_check as derivation_check
pub use Rattle.compiler_correctness.specs.derivation_text as derivation_text
pub use Rattle.compiler_correctness.specs.derivation_trees as derivation_trees
pub use Rattle.compiler_correctness.specs.fip_trees as fip_trees
pub use Rattle.compiler_correctness.specs.in_place_safety as in_place_safety
pub use Rattle.compiler_correctness.specs.lowering_relation as lowering_relation
pub use Rattle.compiler_correctness.specs.machine_semantics as machine_semantics
pub use Rattle.run_loading.specs as run_loading
pub use Rattle.run_loading.specs.separation as separation
pub use Rattle.compiler_correctness.specs.source_report as source_report
pub use Rattle.compiler_correctness.specs.tail_groups as tail_groups
pub use Rattle.run_loading.specs.tree_refinement as tree_refinement
pub use Rattle.compiler_correctness.specs as compiler_correctness
