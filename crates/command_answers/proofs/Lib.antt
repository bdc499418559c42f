pub mod ByTrees
pub mod AskedEntry
pub mod AskedRuns
mod GenInput
mod KeyEnds
pub mod Generated
pub mod TreesOnce
pub mod FileTexts
pub mod CodeOf
pub mod SourceCode
pub mod OneCode
pub mod TalkOnce
pub mod OneEnd
pub mod OneCommand
pub use Rattle.command_library.proofs as command_library
pub use Rattle.command_library.proofs.command_tasks as command_tasks
pub use Rattle.command_library.proofs.command_tasks.command_session as command_session
pub use Rattle.fip_outside.proofs as fip_outside
