pub use Rattle.command_run.specs as command_run
