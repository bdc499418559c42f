pub mod LoweredLists
pub mod LoweredReversing
pub mod Placing
pub mod MatchLists
pub mod Running
pub mod Knowing
pub mod Readings
pub mod Openings
pub mod Goods
pub mod Entries
pub mod Opens
pub mod Choices
pub mod Arriving
pub mod Growths
pub mod LaidReversing
pub mod Deciding
pub mod Picking
pub mod Growing
pub use Rattle.credit_check.proofs as credit_check
pub use Rattle.instance_semantics.proofs as instance_semantics
pub use Rattle.match_knowledge.proofs as match_knowledge
