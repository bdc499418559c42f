pub mod Quiet
pub mod Basics
pub mod Owning
pub mod Always
pub mod Bridge
pub mod Binders
pub mod Whole
pub mod Amounts
pub mod Evens
pub mod Parameters
pub mod Instances
pub use Rattle.fip_rules.proofs as fip_rules
pub use Rattle.ownership_calculus.proofs as ownership_calculus
