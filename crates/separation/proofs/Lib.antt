pub mod Reading
pub mod PlainRows
pub mod Arithmetic
pub mod ReadingRows
pub mod Stores
pub mod Depth
pub mod Reached
pub mod TakeRow
pub mod CellRows
pub mod Sound
pub mod Lower
pub mod Arrive
pub mod Local
pub mod Calling
pub mod Returning
pub mod Stepping
pub mod Loading
pub mod Apartness
pub mod Running
pub mod KindsFound
pub mod Examples
pub use Rattle.separation_kinds.proofs.code_rules as code_rules
pub use Rattle.separation_kinds.proofs.machine_semantics as machine_semantics
pub use Rattle.separation_kinds.proofs as separation_kinds
