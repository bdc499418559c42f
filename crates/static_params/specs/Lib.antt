pub mod FlatProgram
pub mod Answers
pub mod FlatView
pub mod FlatSource
pub use Rattle.data_types.specs as data_types
pub use Rattle.reached_instances.specs as reached_instances
