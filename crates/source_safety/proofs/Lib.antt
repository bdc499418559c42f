pub mod SpeltArguments
pub mod CoreArguments
pub mod Arguments
pub mod Flat
pub mod Formed
pub mod Covered
pub mod Accepted
pub mod Functions
pub use Rattle.specialisation_correctness.proofs.fip_grammar as fip_grammar
pub use Rattle.in_place_safety.proofs as in_place_safety
pub use Rattle.specialisation_correctness.proofs as specialisation_correctness
pub use Rattle.in_place_safety.proofs.type_safety as type_safety
