pub mod Bounds
pub mod Lists
pub mod Trees
pub mod RedBlack
pub mod Different
pub mod KeySets
pub mod Sequences
pub use Rattle.evaluation_steps.specs as evaluation_steps
pub use Rattle.library_programs.specs as library_programs
