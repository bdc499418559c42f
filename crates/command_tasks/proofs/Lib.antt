mod Scheduling
mod Joining
mod Answering
mod Running
pub mod Weighing
mod Frames
mod Entering
mod Ending
pub mod Once
pub use Rattle.command_session.proofs.command_run.code_file as code_file
pub use Rattle.task_correctness.proofs.run_loading as run_loading
pub use Rattle.command_session.proofs.command_run.source_report as source_report
pub use Rattle.command_session.proofs as command_session
pub use Rattle.command_session.proofs.command_run as command_run
