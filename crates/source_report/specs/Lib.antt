pub mod Literals
pub mod TreeMatches
pub mod MatchRules
pub mod Report
pub mod InMemory
pub mod Same
pub mod WellFormed
pub mod Order
pub use Rattle.lowering_simulation.specs.call_groups as call_groups
pub use Rattle.cell_lower.specs.cell_code as cell_code
pub use Rattle.cell_lower.specs as cell_lower
pub use Rattle.cell_lower.specs.code_file as code_file
pub use Rattle.cell_lower.specs.code_rules as code_rules
pub use Rattle.cell_lower.specs.code_size as code_size
pub use Rattle.ownership_agreement.specs.credit_check as credit_check
pub use Rattle.static_params.specs.data_types as data_types
pub use Rattle.cell_lower.specs.fip_base as fip_base
pub use Rattle.fip_grammar.specs as fip_grammar
pub use Rattle.cell_lower.specs.fip_language as fip_language
pub use Rattle.cell_lower.specs.fip_trees as fip_trees
pub use Rattle.lowering_simulation.specs.instance_semantics as instance_semantics
pub use Rattle.cell_lower.specs.lower_frame as lower_frame
pub use Rattle.cell_lower.specs.lowering_relation as lowering_relation
pub use Rattle.lowering_simulation.specs as lowering_simulation
pub use Rattle.cell_lower.specs.match_cover as match_cover
pub use Rattle.cell_lower.specs.match_knowledge as match_knowledge
pub use Rattle.ownership_agreement.specs as ownership_agreement
pub use Rattle.ownership_agreement.specs.ownership_calculus as ownership_calculus
pub use Rattle.static_params.specs.reached_instances as reached_instances
pub use Rattle.static_params.specs as static_params
pub use Rattle.cell_lower.specs.tail_groups as tail_groups
pub use Rattle.lowering_simulation.specs.tree_refinement as tree_refinement
pub use Rattle.lowering_simulation.specs.type_check as type_check
pub use Rattle.lowering_simulation.specs.type_safety as type_safety
