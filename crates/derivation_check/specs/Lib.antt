pub mod Owned
pub mod Scopes
pub mod Patterns
pub mod Calculus
pub mod Accepted
pub mod Heads
pub mod Places
pub mod ScopeView
pub use Rattle.derivation_trees.specs as derivation_trees
pub use Rattle.fip_base.specs as fip_base
pub use Rattle.fip_trees.specs as fip_trees
