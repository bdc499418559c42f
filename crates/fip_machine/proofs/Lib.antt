pub mod Tasked
pub mod Mosts
pub mod Alongs
pub mod Measured
pub mod Bursts
pub mod Tapings
pub mod Wholes
pub mod Sures
pub mod Resuming
pub use Rattle.fip_language.proofs as fip_language
pub use Rattle.machine_cells.proofs as machine_cells
