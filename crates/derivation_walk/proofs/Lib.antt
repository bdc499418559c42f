pub mod UsesRows
pub mod Searching
pub mod Rising
pub mod UsesSteps
pub mod Growing
pub mod Whole
pub mod Sorting
pub mod WalkSteps
pub mod WalkRows
pub mod Costs
pub mod Short
pub use Rattle.credit_check.proofs as credit_check
pub use Rattle.fip_rules.proofs as fip_rules
