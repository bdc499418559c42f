pub mod Keeping
pub mod Leaving
pub mod Releasing
pub mod Sharing
pub mod Calls
pub mod Making
pub mod Counting
pub mod Speaking
pub mod Naming
pub mod Beginning
pub mod Few
pub mod Opening
pub mod StoreFacts
pub use Rattle.tree_refinement.proofs as tree_refinement
