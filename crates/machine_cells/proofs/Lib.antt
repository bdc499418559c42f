pub mod Living
pub mod Counts
pub mod Pendings
pub mod Names
pub use Rattle.machine_semantics.proofs as machine_semantics
