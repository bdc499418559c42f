-- The credits that a pattern gives: one for each constructor with fields.
use Rattle.std.specs.Prelude.{ℕ, zero, suc, ◌+◌}
use Rattle.fip_trees.specs.Tree.{Pattern, BinderPattern, LiteralPattern, ConstructorPattern}
use Rattle.fip_trees.specs.Tree.{Patterns, NoPatterns, MorePatterns, count_patterns}
use Rattle.ownership_calculus.specs.Items.{paid, Credit}

abbrev mutual
  -- how many of size k
  pub nodes : ℕ → Pattern → ℕ
  nodes k (BinderPattern b) = 0
  nodes k (LiteralPattern i p) = 0
  nodes k (ConstructorPattern t d c n p ps) = paid (count_patterns ps) (Credit k) + nodes_all k ps

  pub nodes_all : ℕ → Patterns → ℕ
  nodes_all k NoPatterns = 0
  nodes_all k (MorePatterns p ps) = nodes k p + nodes_all k ps
