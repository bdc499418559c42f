pub mod Distinct
pub mod RunEnds
pub mod Guarded
pub mod Wide
pub mod CellEnds
pub use Rattle.tree_refinement.specs.call_groups as call_groups
pub use Rattle.lowering_relation.specs.instance_semantics as instance_semantics
pub use Rattle.tree_refinement.specs as tree_refinement
pub use Rattle.type_safety.specs.type_check as type_check
pub use Rattle.type_safety.specs as type_safety
