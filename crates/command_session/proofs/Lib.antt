pub mod Serving
pub use Rattle.command_run.proofs.machine_correctness as machine_correctness
pub use Rattle.command_run.proofs as command_run
