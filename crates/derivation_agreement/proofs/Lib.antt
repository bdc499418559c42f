mod Names
mod Sharing
mod Scoping
mod CalculusValues
mod Bodies
mod Header
mod Instances
pub mod Spelt
pub mod Callees
pub mod Amounts
pub mod Depths
pub mod TextWhole
pub mod Seeing
pub mod Hitting
pub mod Sited
pub mod Ranks
pub mod Nodes
pub mod WalkValues
pub mod Parts
pub mod Agreeing
pub mod WalkWhole
pub use Rattle.derivation_making.proofs as derivation_making
pub use Rattle.derivation_making.proofs.type_check as type_check
