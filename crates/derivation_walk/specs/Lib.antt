pub mod Seen
pub mod Tables
pub mod Lookups
pub mod Growing
pub mod Walked
pub mod Guides
pub mod Walks
pub mod Costs
pub use Rattle.credit_check.specs as credit_check
pub use Rattle.derivation_trees.specs as derivation_trees
pub use Rattle.fip_rules.specs as fip_rules
