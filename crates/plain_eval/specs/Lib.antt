pub mod Operating
pub mod Slots
pub mod Moving
pub mod Giving
pub mod Choosing
pub mod Work
pub mod Machine
pub mod Ended
pub mod Instances
pub use Rattle.instance_semantics.specs as instance_semantics
