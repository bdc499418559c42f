pub mod Examples
pub mod OneForm
pub use Rattle.instance_semantics.proofs as instance_semantics
