pub mod Arguments
pub mod EvalAnswer
pub use Rattle.command_source.specs as command_source
pub use Rattle.command_source.specs.type_safety as type_safety
pub use Rattle.command_source.specs.machine_correctness as machine_correctness
