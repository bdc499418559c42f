pub mod Counted
pub mod Few
pub mod Whole
pub use Rattle.source_report.proofs.cell_lower as cell_lower
pub use Rattle.source_report.proofs.code_file as code_file
pub use Rattle.derivation_text.proofs as derivation_text
pub use Rattle.source_report.proofs.lowering_simulation as lowering_simulation
pub use Rattle.source_report.proofs as source_report
pub use Rattle.source_report.proofs.static_params as static_params
pub use Rattle.source_report.proofs.tree_refinement as tree_refinement
