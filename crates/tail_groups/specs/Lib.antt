pub mod Sites
pub mod Rules
pub mod Registers
pub mod Notes
pub mod Members
pub mod Found
pub use Rattle.call_groups.specs as call_groups
pub use Rattle.fip_base.specs as fip_base
pub use Rattle.fip_language.specs as fip_language
pub use Rattle.fip_trees.specs as fip_trees
