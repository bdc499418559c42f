pub mod Asks
pub mod GaugeText
pub mod Exec
pub mod Drawn
pub mod Generating
pub mod Asked
pub mod CodeOf
pub mod Ends
pub mod Stored
pub mod Answer
pub mod Open
pub use Rattle.command_library.specs as command_library
pub use Rattle.library_correctness.specs as library_correctness
pub use Rattle.command_library.specs.command_run as command_run
pub use Rattle.command_library.specs.command_source as command_source
pub use Rattle.command_library.specs.command_tasks as command_tasks
pub use Rattle.command_trace.specs as command_trace
pub use Rattle.fip_outside.specs as fip_outside
pub use Rattle.command_library.specs.command_tasks.command_session as command_session
