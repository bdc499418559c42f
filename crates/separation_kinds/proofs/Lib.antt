pub mod Basics
pub mod KindLemmas
pub mod Changing
pub mod Agree
pub mod Shapes
pub mod Fits
pub mod Words
pub mod Giving
pub mod Reaching
pub mod Takes
pub mod Taken
pub mod Passing
pub mod Receiving
pub use Rattle.code_rules.proofs as code_rules
pub use Rattle.machine_semantics.proofs as machine_semantics
