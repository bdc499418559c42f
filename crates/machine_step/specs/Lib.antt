pub mod Bounding
pub mod Placed
pub mod View
pub mod Highest
pub mod Coming
pub mod Going
pub mod Telling
pub mod Sure
pub use Rattle.code_verify.specs as code_verify
pub use Rattle.machine_frames.specs as machine_frames
