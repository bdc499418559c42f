pub mod Leads
pub mod Statics
pub mod Arguments
pub mod Naming
pub mod Later
pub mod Handing
pub mod Matching
pub mod Choosing
pub mod Bodies
pub mod Starts
pub mod Whole
pub mod Guards
pub mod Patterns
mod Joined
pub use Rattle.tree_refinement.proofs.code_rules as code_rules
pub use Rattle.lowering_relation.proofs.instance_semantics as instance_semantics
pub use Rattle.tree_refinement.proofs.separation_bounds as separation_bounds
pub use Rattle.tree_refinement.proofs as tree_refinement
pub use Rattle.type_safety.proofs.type_check as type_check
pub use Rattle.type_safety.proofs as type_safety
