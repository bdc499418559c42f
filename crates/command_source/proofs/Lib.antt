pub mod Reported
pub mod Judging
pub mod Roots
pub mod Once
pub mod CodeFiles
pub mod Compiling
pub mod FunctionNumbers
pub mod Deriving
pub mod Entries
pub use Rattle.machine_correctness.proofs.compiler_correctness.fip_grammar as fip_grammar
pub use Rattle.program_front.proofs.source_report as source_report
pub use Rattle.machine_correctness.proofs.compiler_correctness.source_safety as source_safety
pub use Rattle.machine_correctness.proofs.compiler_correctness.specialisation_correctness as specialisation_correctness
pub use Rattle.program_front.proofs.static_params as static_params
pub use Rattle.machine_correctness.proofs as machine_correctness
