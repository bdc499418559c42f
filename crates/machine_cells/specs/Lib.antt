pub mod Outcomes
pub mod Small
pub mod Live
pub mod Pending
pub mod Telling
pub mod Counting
pub use Rattle.machine_semantics.specs as machine_semantics
