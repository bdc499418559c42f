pub mod Words
pub mod Gauging
pub mod Lines
pub mod Bounded
pub mod Loaded
pub mod SameStore
pub mod FirstLoad
pub mod Beginning
pub mod Small
pub mod Came
pub mod Ran
pub mod Reported
pub mod Entry
pub mod RunsCode
pub mod Execs
pub mod FileTypes
pub mod Leaving
pub mod RunTables
pub mod CodeOnce
pub mod ExecOnce
pub use Rattle.command_eval.proofs.machine_correctness.code_file as code_file
pub use Rattle.command_eval.proofs as command_eval
pub use Rattle.command_eval.proofs.command_source as command_source
pub use Rattle.command_eval.proofs.machine_correctness.compiler_correctness as compiler_correctness
pub use Rattle.command_eval.proofs.machine_correctness.derivation_text as derivation_text
pub use Rattle.command_eval.proofs.machine_correctness as machine_correctness
pub use Rattle.command_eval.proofs.machine_correctness.separation as separation
pub use Rattle.session_semantics.proofs as session_semantics
pub use Rattle.command_eval.proofs.machine_correctness.source_report as source_report
pub use Rattle.value_text.proofs as value_text
