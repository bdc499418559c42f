pub mod Stays
pub mod Followed
pub mod Replayed
pub mod Sizes
pub mod Falling
pub mod Gauged
pub mod Reading
pub use Rattle.cell_code.proofs.fip_language as fip_language
pub use Rattle.cell_code.proofs as cell_code
