pub mod Scanned
pub mod Completed
pub mod Named
pub mod Said
pub mod Parts
pub use Rattle.session_semantics.specs.command_outcome as command_outcome
pub use Rattle.session_semantics.specs.instance_semantics as instance_semantics
pub use Rattle.session_semantics.specs as session_semantics
