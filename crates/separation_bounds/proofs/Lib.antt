pub mod RowFacts
pub mod Chains
pub mod FipSteps
pub mod FipRuns
pub mod Falling
pub mod FewSteps
pub mod Weights
pub mod GivenBack
pub mod Ending
pub mod Sums
pub mod Bounds
pub mod Solving
pub mod Numbers
pub use Rattle.separation.proofs.code_rules as code_rules
pub use Rattle.separation.proofs as separation
pub use Rattle.separation.proofs.separation_kinds as separation_kinds
