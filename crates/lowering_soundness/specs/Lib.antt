pub mod Covering
pub mod Giving
pub mod Rows
pub mod Parts
pub mod Ties
pub mod Whole
pub mod Laid
pub mod Computed
pub mod Delivered
pub mod Passed
pub mod Placed
pub mod Functions
pub mod Origins
pub mod Accepted
pub mod Built
pub mod Alike
pub use Rattle.tail_groups.specs.call_groups as call_groups
pub use Rattle.separation.specs.cell_code as cell_code
pub use Rattle.separation.specs.code_rules as code_rules
pub use Rattle.lowering_relation.specs.credit_check as credit_check
pub use Rattle.derivation_making.specs.derivation_check as derivation_check
pub use Rattle.derivation_making.specs as derivation_making
pub use Rattle.derivation_making.specs.derivation_trees as derivation_trees
pub use Rattle.separation.specs.fip_base as fip_base
pub use Rattle.separation.specs.fip_language as fip_language
pub use Rattle.derivation_making.specs.fip_rules as fip_rules
pub use Rattle.lowering_relation.specs.fip_trees as fip_trees
pub use Rattle.lowering_relation.specs.instance_semantics as instance_semantics
pub use Rattle.lowering_relation.specs as lowering_relation
pub use Rattle.separation.specs.machine_semantics as machine_semantics
pub use Rattle.derivation_making.specs.ownership_agreement as ownership_agreement
pub use Rattle.derivation_making.specs.ownership_calculus as ownership_calculus
pub use Rattle.separation.specs as separation
pub use Rattle.tail_groups.specs as tail_groups
pub use Rattle.lowering_relation.specs.tree_semantics as tree_semantics
pub use Rattle.derivation_making.specs.type_check as type_check
