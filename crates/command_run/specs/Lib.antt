pub mod GaugeText
pub mod CodeRun
pub mod LoadedRun
pub mod Leaving
pub mod StackBound
pub mod ExecAnswer
pub mod Starting
pub use Rattle.command_eval.specs.machine_correctness.cell_lower as cell_lower
pub use Rattle.command_eval.specs.machine_correctness.code_file as code_file
pub use Rattle.command_eval.specs.machine_correctness.code_rules as code_rules
pub use Rattle.command_eval.specs as command_eval
pub use Rattle.command_eval.specs.command_source as command_source
pub use Rattle.command_eval.specs.machine_correctness.derivation_check as derivation_check
pub use Rattle.command_eval.specs.machine_correctness.derivation_text as derivation_text
pub use Rattle.command_eval.specs.machine_correctness.derivation_trees as derivation_trees
pub use Rattle.command_eval.specs.machine_correctness.fip_trees as fip_trees
pub use Rattle.command_eval.specs.machine_correctness.lowering_relation as lowering_relation
pub use Rattle.command_eval.specs.machine_correctness as machine_correctness
pub use Rattle.command_eval.specs.machine_correctness.separation as separation
pub use Rattle.session_semantics.specs as session_semantics
pub use Rattle.command_eval.specs.machine_correctness.source_report as source_report
pub use Rattle.command_eval.specs.machine_correctness.tail_groups as tail_groups
pub use Rattle.value_text.specs as value_text
