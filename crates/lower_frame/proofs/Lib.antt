pub mod Frames
pub mod Spelt
pub mod Losing
pub mod Meeting
pub mod Labels
pub mod Growing
pub mod Counting
pub mod Accounts
pub use Rattle.code_file.proofs as code_file
pub use Rattle.lowering_relation.proofs as lowering_relation
