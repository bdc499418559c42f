pub mod Made
pub mod Lengths
pub mod Texts
pub use Rattle.derivation_agreement.proofs as derivation_agreement
pub use Rattle.derivation_agreement.proofs.derivation_making as derivation_making
pub use Rattle.derivation_agreement.proofs.type_check as type_check
