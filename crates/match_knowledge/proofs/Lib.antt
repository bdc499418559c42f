pub mod Facts
pub mod VerdictFacts
pub mod Split
pub mod Fresh
pub mod Living
pub mod Fewer
pub mod RowFacts
pub mod Steps
pub mod Arms
pub mod Matches
pub use Rattle.fip_base.proofs as fip_base
