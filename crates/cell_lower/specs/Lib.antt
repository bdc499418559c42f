pub mod Limits
pub mod LimitNotes
pub mod Shape
pub mod Lowered
pub mod Sizes
pub mod Instances
pub mod Small
pub mod LaidProgram
pub use Rattle.cell_code.specs as cell_code
pub use Rattle.lower_parts.specs.lower_frame.code_file as code_file
pub use Rattle.lower_parts.specs.lower_frame.code_rules as code_rules
pub use Rattle.lower_parts.specs.code_size as code_size
pub use Rattle.fip_base.specs as fip_base
pub use Rattle.fip_language.specs as fip_language
pub use Rattle.fip_trees.specs as fip_trees
pub use Rattle.lower_parts.specs.lower_frame as lower_frame
pub use Rattle.lower_parts.specs.lowering_relation as lowering_relation
pub use Rattle.lower_parts.specs.code_size.match_cover as match_cover
pub use Rattle.match_knowledge.specs as match_knowledge
pub use Rattle.lower_parts.specs.code_size.tail_groups as tail_groups
