pub mod Programs
pub use Rattle.library_sources.specs as library_sources
