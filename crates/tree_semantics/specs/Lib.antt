pub mod Contents
pub mod States
pub mod Steps
pub mod Runs
pub mod Example
pub use Rattle.machine_semantics.specs.fip_language as fip_language
pub use Rattle.machine_semantics.specs as machine_semantics
