pub mod Drops
pub mod VerifiedEnds
pub mod Literals
pub mod Entries
pub mod Starting
pub mod Texts
pub mod Made
pub mod EvaluatedEnds
pub mod Flat
pub mod Peaks
pub use Rattle.compiler_correctness.proofs.code_file as code_file
pub use Rattle.run_loading.proofs.code_rules as code_rules
pub use Rattle.compiler_correctness.proofs as compiler_correctness
pub use Rattle.compiler_correctness.proofs.derivation_text as derivation_text
pub use Rattle.run_loading.proofs as run_loading
pub use Rattle.run_loading.proofs.separation as separation
pub use Rattle.run_loading.proofs.separation_bounds as separation_bounds
pub use Rattle.run_loading.proofs.separation_kinds as separation_kinds
pub use Rattle.compiler_correctness.proofs.source_report as source_report
pub use Rattle.compiler_correctness.proofs.source_safety as source_safety
pub use Rattle.compiler_correctness.proofs.specialisation_correctness as specialisation_correctness
pub use Rattle.run_loading.proofs.tree_refinement as tree_refinement
