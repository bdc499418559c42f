pub mod Least
pub mod Names
pub mod NeedsView
pub mod Numbers
pub mod Sizes
pub mod Tree
pub mod TreeView
pub mod SoundProgram
pub use Rattle.fip_base.specs as fip_base
pub use Rattle.fip_base.specs.fip_language as fip_language
