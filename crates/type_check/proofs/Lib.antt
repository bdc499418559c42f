pub mod Trail
pub mod Scopes
pub mod Steps
pub mod Worlds
pub mod Basics
pub mod Sound
pub mod Complete
pub mod Once
pub mod Exact
pub mod Shared
pub mod Halves
pub mod Plains
pub mod Examples
pub mod Filling
pub use Rattle.fip_language.proofs as fip_language
