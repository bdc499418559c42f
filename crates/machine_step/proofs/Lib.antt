pub mod Stacked
pub mod Fitting
pub mod Starting
pub mod Nexts
pub mod Calls
pub mod RowNexts
pub mod Helps
pub mod Goings
pub mod Highs
pub mod Turns
pub mod Tellings
pub mod Sures
pub use Rattle.machine_frames.proofs as machine_frames
