pub mod Turned
pub mod Started
pub mod Answers
pub mod VerifiedAnywhere
pub mod Meant
pub mod Answered
pub mod EvaluatedAnywhere
pub mod Counted
pub mod Gauges
pub use Rattle.machine_correctness.proofs.run_loading as run_loading
pub use Rattle.machine_correctness.proofs.source_safety as source_safety
pub use Rattle.machine_correctness.proofs.specialisation_correctness as specialisation_correctness
