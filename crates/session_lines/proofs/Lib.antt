pub mod Tokens
pub mod Writing
mod Naming
mod Splitting
mod Reading
pub use Rattle.session_semantics.proofs.instance_semantics as instance_semantics
