pub mod Growth
pub mod Overlays
pub mod Seen
pub mod Testing
pub mod Scenes
pub mod Writing
pub mod Laying
pub mod Bodies
pub mod Marks
pub mod Leaving
pub mod Chosen
pub mod Clauses
pub mod Matches
pub use Rattle.code_size.specs as code_size
pub use Rattle.lower_frame.specs as lower_frame
pub use Rattle.lower_frame.specs.lowering_relation as lowering_relation
