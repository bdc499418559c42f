pub mod Values
pub mod Operating
pub mod PlainFollows
pub mod ReadingFollows
pub mod CellFollows
pub mod TakeFollows
pub mod Arriving
pub mod Inside
pub mod Handing
pub mod Entering
pub mod Resuming
pub mod Stepping
pub mod Loading
pub mod Running
pub mod Examples
pub mod Overs
pub mod Lending
pub mod Cells
pub mod Stacks
pub mod Ends
pub mod Alike
pub use Rattle.separation_bounds.proofs.code_rules as code_rules
pub use Rattle.tree_semantics.proofs.fip_language as fip_language
pub use Rattle.tree_semantics.proofs.machine_semantics as machine_semantics
pub use Rattle.separation_bounds.proofs.separation as separation
pub use Rattle.separation_bounds.proofs as separation_bounds
pub use Rattle.separation_bounds.proofs.separation_kinds as separation_kinds
pub use Rattle.tree_semantics.proofs as tree_semantics
