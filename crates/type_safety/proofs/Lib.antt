pub mod FilledSlots
pub mod Arithmetic
pub mod Scopes
pub mod WellTyped
pub mod Covering
pub mod Examples
pub mod Gains
pub use Rattle.instance_semantics.proofs as instance_semantics
pub use Rattle.type_check.proofs as type_check
