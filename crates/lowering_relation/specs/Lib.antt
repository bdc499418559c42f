pub mod Known
pub mod Values
pub mod Tidy
pub mod Choosing
pub mod FunctionNumbers
pub mod LoweredBodies
pub mod LoweredFunctions
pub mod LoweredExample
pub mod Written
pub mod Spots
pub mod Rows
pub mod Reading
pub mod Opening
pub mod Landing
pub mod Entering
pub mod Losing
pub mod Growing
pub mod WellMatched
pub mod Describing
pub mod Labels
pub mod Sights
pub mod Tests
pub mod Matches
pub mod GivenUp
pub mod Credits
pub mod Uses
pub mod Leftover
pub mod Joins
pub mod Moves
pub mod Handed
pub mod LaidBodies
pub mod LaidFunctions
pub mod Standing
pub mod LaidExample
pub use Rattle.code_rules.specs as code_rules
pub use Rattle.credit_check.specs as credit_check
pub use Rattle.credit_check.specs.fip_trees as fip_trees
pub use Rattle.instance_semantics.specs as instance_semantics
pub use Rattle.tree_semantics.specs.machine_semantics as machine_semantics
pub use Rattle.match_knowledge.specs as match_knowledge
pub use Rattle.tree_semantics.specs as tree_semantics
