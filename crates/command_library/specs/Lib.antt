pub mod MadeTree
pub mod Reading
pub mod GenRoom
pub mod GenAnswer
pub use Rattle.command_tasks.specs.command_run.code_rules as code_rules
pub use Rattle.command_tasks.specs.command_run.command_eval as command_eval
pub use Rattle.command_outcome.specs as command_outcome
pub use Rattle.command_tasks.specs.command_run as command_run
pub use Rattle.command_tasks.specs.command_run.command_source as command_source
pub use Rattle.command_words.specs as command_words
pub use Rattle.command_tasks.specs.command_run.derivation_check as derivation_check
pub use Rattle.command_tasks.specs.command_run.derivation_text as derivation_text
pub use Rattle.command_tasks.specs.command_run.derivation_trees as derivation_trees
pub use Rattle.fip_base.specs as fip_base
pub use Rattle.fip_language.specs as fip_language
pub use Rattle.library_sources.specs as library_sources
pub use Rattle.command_tasks.specs.command_run.machine_correctness as machine_correctness
pub use Rattle.task_semantics.specs.machine_semantics as machine_semantics
pub use Rattle.task_semantics.specs.run_loading as run_loading
pub use Rattle.command_tasks.specs.command_run.separation as separation
pub use Rattle.command_tasks.specs.command_run.session_semantics as session_semantics
pub use Rattle.task_semantics.specs as task_semantics
pub use Rattle.command_tasks.specs.command_run.value_text as value_text
pub use Rattle.command_tasks.specs as command_tasks
