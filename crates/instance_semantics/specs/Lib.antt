pub mod Registers
pub mod Matching
pub mod Meaning
pub mod Example
pub mod Specialised
pub use Rattle.fip_trees.specs as fip_trees
