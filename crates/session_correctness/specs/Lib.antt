pub mod Lodging
pub mod Leaving
pub mod Called
pub mod Calling
pub mod Counted
pub mod Beside
pub mod Open
pub use Rattle.session_semantics.specs as session_semantics
pub use Rattle.tree_refinement.specs as tree_refinement
