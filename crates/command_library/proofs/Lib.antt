pub mod Inputs
pub mod Nodes
pub mod Waiting
pub mod Words
pub mod Short
pub mod Texts
pub mod Accepted
pub mod Runs
pub mod Once
pub use Rattle.task_semantics.proofs.code_rules as code_rules
pub use Rattle.command_tasks.proofs.command_run.command_eval as command_eval
pub use Rattle.command_tasks.proofs.command_run as command_run
pub use Rattle.command_tasks.proofs.command_run.command_source as command_source
pub use Rattle.command_tasks.proofs.command_run.derivation_text as derivation_text
pub use Rattle.fip_language.proofs as fip_language
pub use Rattle.library_texts.proofs as library_texts
pub use Rattle.task_semantics.proofs.run_loading as run_loading
pub use Rattle.command_tasks.proofs.command_run.separation as separation
pub use Rattle.command_tasks.proofs.command_run.value_text as value_text
pub use Rattle.command_tasks.proofs as command_tasks
