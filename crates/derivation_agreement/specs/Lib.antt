pub mod Within
pub mod Limits
pub use Rattle.derivation_making.specs as derivation_making
pub use Rattle.derivation_making.specs.ownership_agreement as ownership_agreement
pub use Rattle.derivation_making.specs.type_check as type_check
