pub mod Ready
pub mod Lines
pub use Rattle.derivation_walk.specs.credit_check as credit_check
pub use Rattle.derivation_agreement.specs as derivation_agreement
pub use Rattle.derivation_check.specs as derivation_check
pub use Rattle.derivation_agreement.specs.derivation_making as derivation_making
pub use Rattle.derivation_text.specs as derivation_text
pub use Rattle.derivation_trees.specs as derivation_trees
pub use Rattle.derivation_walk.specs.fip_rules as fip_rules
