pub mod ExceededLimits
pub mod Headers
pub mod Programs
pub mod Instances
pub mod Smalls
pub mod SoundScalars
pub mod Standing
pub mod Parts
pub use Rattle.lower_parts.proofs.lower_frame.code_file as code_file
pub use Rattle.fip_language.proofs as fip_language
pub use Rattle.fip_trees.proofs as fip_trees
