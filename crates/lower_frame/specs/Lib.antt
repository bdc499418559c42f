pub mod Registers
pub mod Credits
pub mod Frames
pub mod Labels
pub mod Positions
pub mod Spelled
pub use Rattle.code_file.specs as code_file
pub use Rattle.lowering_relation.specs.code_rules as code_rules
pub use Rattle.lowering_relation.specs as lowering_relation
pub use Rattle.lowering_relation.specs.machine_semantics as machine_semantics
pub use Rattle.lowering_relation.specs.tree_semantics as tree_semantics
