pub mod Needs
pub mod Credits
pub mod Held
pub mod Tallies
pub use Rattle.fip_base.specs as fip_base
pub use Rattle.fip_trees.specs.fip_language as fip_language
pub use Rattle.fip_trees.specs as fip_trees
