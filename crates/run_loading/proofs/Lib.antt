pub mod Lengths
pub mod Examples
pub mod Reading
pub mod Inverse
pub mod Printing
pub mod Either
pub mod StepChanges
pub mod RunTraces
pub mod Small
pub mod Begins
pub use Rattle.tree_refinement.proofs.code_rules as code_rules
pub use Rattle.tree_refinement.proofs.fip_language as fip_language
pub use Rattle.tree_refinement.proofs.separation as separation
pub use Rattle.tree_refinement.proofs.separation_bounds as separation_bounds
pub use Rattle.tree_refinement.proofs.separation_kinds as separation_kinds
pub use Rattle.tree_refinement.proofs as tree_refinement
