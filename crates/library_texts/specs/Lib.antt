pub mod ComesTo
pub use Rattle.library_programs.specs as library_programs
