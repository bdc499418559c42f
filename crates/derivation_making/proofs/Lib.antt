pub mod Lists
pub mod Credits
pub mod Nodes
pub mod Linking
pub mod Reading
pub mod Arguments
pub mod Passing
pub mod Standing
pub mod Lets
pub mod Matches
pub mod Bodies
pub mod Whole
pub mod Lean
pub mod Typed
pub mod Programs
pub use Rattle.ownership_agreement.proofs as ownership_agreement
pub use Rattle.ownership_agreement.proofs.ownership_calculus as ownership_calculus
pub use Rattle.type_check.proofs as type_check
