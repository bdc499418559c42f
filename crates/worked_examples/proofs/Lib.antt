pub mod Declared
pub mod Typed
pub mod Missing
pub mod Credits
pub mod Stacks
pub mod Registers
pub mod Owning
pub mod Empty
pub mod Declaring
pub use Rattle.source_report.proofs.code_file as code_file
pub use Rattle.source_report.proofs.separation_bounds as separation_bounds
pub use Rattle.source_report.proofs.tree_refinement as tree_refinement
