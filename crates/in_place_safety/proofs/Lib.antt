pub mod CellTheorem
pub mod NamesGrow
pub mod Tracking
pub mod Binding
pub mod Patterns
pub mod Owned
pub mod Arguments
pub mod Counting
pub mod Keeping
pub mod Examples
pub mod Runs
pub mod Within
pub mod Strong
pub mod Checked
pub mod Sources
pub use Rattle.tail_groups.proofs.fip_language as fip_language
pub use Rattle.type_safety.proofs as type_safety
