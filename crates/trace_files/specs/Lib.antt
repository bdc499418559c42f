pub mod Plain
pub mod Reading
pub mod Lines
pub use Rattle.run_loading.specs.machine_semantics as machine_semantics
pub use Rattle.run_loading.specs as run_loading
