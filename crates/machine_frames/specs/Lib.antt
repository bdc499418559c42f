pub mod Keeping
pub mod Words
pub mod View
pub use Rattle.machine_semantics.specs as machine_semantics
