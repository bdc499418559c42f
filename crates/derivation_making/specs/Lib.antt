pub mod Uses
pub mod Made
pub mod Fitting
pub mod Numbered
pub mod Weakening
pub use Rattle.derivation_check.specs as derivation_check
pub use Rattle.derivation_check.specs.derivation_trees as derivation_trees
pub use Rattle.ownership_agreement.specs.fip_rules as fip_rules
pub use Rattle.ownership_agreement.specs as ownership_agreement
pub use Rattle.ownership_agreement.specs.ownership_calculus as ownership_calculus
pub use Rattle.type_check.specs as type_check
