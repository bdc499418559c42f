pub mod Instances
pub mod Joined
pub mod SoundTypes
pub mod Worlds
pub mod Numbering
pub mod Regular
pub mod SoundnessFunctions
pub mod Sharing
pub mod Building
pub mod Asking
pub mod SoundnessWhole
pub mod StackNumbers
pub mod Tokens
pub mod Passing
pub mod Names
pub mod Texts
pub mod Tables
pub mod Types
pub mod Headers
pub mod EncodingFunctions
pub mod Codes
pub mod EncodingWhole
pub use Rattle.derivation_correctness.proofs.code_file as code_file
pub use Rattle.derivation_correctness.proofs as derivation_correctness
pub use Rattle.derivation_correctness.proofs.derivation_text as derivation_text
pub use Rattle.source_safety.proofs.fip_grammar as fip_grammar
pub use Rattle.source_safety.proofs.in_place_safety as in_place_safety
pub use Rattle.derivation_correctness.proofs.lowering_simulation as lowering_simulation
pub use Rattle.derivation_correctness.proofs.source_report as source_report
pub use Rattle.source_safety.proofs as source_safety
pub use Rattle.source_safety.proofs.specialisation_correctness as specialisation_correctness
