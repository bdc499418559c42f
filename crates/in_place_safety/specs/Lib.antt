pub mod Conservation
pub mod Counts
pub mod Scrutinees
pub mod Bounds
pub mod InPlace
pub use Rattle.tail_groups.specs.fip_base as fip_base
pub use Rattle.tail_groups.specs.fip_language as fip_language
pub use Rattle.tail_groups.specs.fip_trees as fip_trees
pub use Rattle.type_safety.specs.instance_semantics as instance_semantics
pub use Rattle.tail_groups.specs as tail_groups
pub use Rattle.type_safety.specs.type_check as type_check
pub use Rattle.type_safety.specs as type_safety
