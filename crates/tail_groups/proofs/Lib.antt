mod Shared
mod Steps
mod Whole
mod Founds
pub use Rattle.fip_language.proofs as fip_language
pub use Rattle.fip_trees.proofs as fip_trees
