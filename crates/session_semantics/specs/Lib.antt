pub mod Lines
pub mod Typed
pub mod Talk
pub mod Turns
pub mod Example
pub use Rattle.command_outcome.specs as command_outcome
pub use Rattle.instance_semantics.specs as instance_semantics
