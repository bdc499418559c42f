pub mod CoreLiterals
pub mod Erasing
pub mod Filling
pub mod FipCalls
pub mod Forming
pub mod Matching
pub mod Memory
pub mod Numbered
pub mod Once
pub mod Phases
pub mod Ready
pub mod RuleNumbers
pub mod Scrutinees
pub mod Sizing
pub mod SpeltLiterals
pub mod Steps
pub mod TypedMatches
pub mod SpeltBinders
pub mod CoreOrder
pub mod TypedOrder
pub mod Distinct
pub use Rattle.cell_lower.proofs as cell_lower
pub use Rattle.cell_lower.proofs.code_file as code_file
pub use Rattle.lowering_simulation.proofs.code_rules as code_rules
pub use Rattle.static_params.proofs.data_types as data_types
pub use Rattle.fip_grammar.proofs as fip_grammar
pub use Rattle.cell_lower.proofs.fip_language as fip_language
pub use Rattle.lowering_simulation.proofs.instance_semantics as instance_semantics
pub use Rattle.lowering_simulation.proofs as lowering_simulation
pub use Rattle.ownership_agreement.proofs.ownership_calculus as ownership_calculus
pub use Rattle.static_params.proofs.reached_instances as reached_instances
pub use Rattle.lowering_simulation.proofs.separation_bounds as separation_bounds
pub use Rattle.static_params.proofs as static_params
pub use Rattle.lowering_simulation.proofs.tree_refinement as tree_refinement
pub use Rattle.lowering_simulation.proofs.type_check as type_check
pub use Rattle.lowering_simulation.proofs.type_safety as type_safety
