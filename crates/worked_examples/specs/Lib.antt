pub mod Declared
pub mod Programs
pub mod Matches
pub mod Codes
pub mod Terms
pub mod Empty
pub mod Declaring
pub use Rattle.source_report.specs.cell_code as cell_code
pub use Rattle.source_report.specs.cell_lower as cell_lower
pub use Rattle.source_report.specs.code_file as code_file
pub use Rattle.source_report.specs.fip_trees as fip_trees
pub use Rattle.source_report.specs.instance_semantics as instance_semantics
pub use Rattle.source_report.specs.lowering_relation as lowering_relation
pub use Rattle.source_report.specs.lowering_simulation as lowering_simulation
pub use Rattle.source_report.specs as source_report
pub use Rattle.source_report.specs.tail_groups as tail_groups
pub use Rattle.source_report.specs.tree_refinement as tree_refinement
pub use Rattle.source_report.specs.type_safety as type_safety
