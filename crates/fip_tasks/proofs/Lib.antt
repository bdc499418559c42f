pub mod Called
pub mod Finishing
pub mod Landings
pub mod Lists
pub mod Reached
pub mod Risen
pub mod Turning
pub use Rattle.task_semantics.proofs as task_semantics
pub mod Held
