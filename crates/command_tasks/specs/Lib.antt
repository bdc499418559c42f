pub mod TasksAnswer
pub mod Fronts
pub mod Telling
pub mod Called
pub use Rattle.command_session.specs.command_run.code_file as code_file
pub use Rattle.task_correctness.specs.run_loading as run_loading
pub use Rattle.command_session.specs.command_run.source_report as source_report
pub use Rattle.command_session.specs as command_session
pub use Rattle.command_session.specs.command_run as command_run
