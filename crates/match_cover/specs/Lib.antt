pub mod Matches
pub mod Lets
pub mod MatchFaults
pub mod Shapes
pub mod PatternView
pub mod FoundView
pub mod TreeOfMatch
pub mod DecisionTree
pub mod TreeView
pub mod MissingPattern
pub mod Missing
pub mod MissingView
pub mod MissingSearch
pub mod PatternText
pub mod Coverage
pub mod Answers
pub mod Gathered
pub use Rattle.fip_base.specs as fip_base
pub use Rattle.fip_language.specs as fip_language
pub use Rattle.fip_trees.specs as fip_trees
pub use Rattle.match_knowledge.specs as match_knowledge
