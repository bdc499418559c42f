pub mod Stays
pub mod Puts
pub use Rattle.machine_semantics.proofs.fip_language as fip_language
pub use Rattle.machine_semantics.proofs as machine_semantics
