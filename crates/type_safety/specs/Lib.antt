pub mod Formed
pub mod Exhaustive
pub mod ParameterTypes
pub mod Soundness
pub use Rattle.instance_semantics.specs as instance_semantics
pub use Rattle.type_check.specs as type_check
