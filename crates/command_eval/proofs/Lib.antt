pub mod Texts
pub mod Loading
pub mod SoundTypes
pub mod Meant
pub mod Once
pub use Rattle.command_source.proofs as command_source
pub use Rattle.plain_rows.proofs as plain_rows
pub use Rattle.command_source.proofs.machine_correctness as machine_correctness
