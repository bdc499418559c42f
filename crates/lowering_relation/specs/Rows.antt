-- It serves the proofs on lowered code: patterns without names, and those of the clauses of a match.
use Rattle.std.specs.Prelude.{List, [], ◌∷◌}
use Rattle.credit_check.specs.fip_trees.Tree.{Pattern, BinderPattern, LiteralPattern, ConstructorPattern, Patterns, NoPatterns}
use Rattle.credit_check.specs.fip_trees.Tree.{MorePatterns, Clauses, NoClauses, MoreClauses}
use Rattle.match_knowledge.specs.declared.heads.Head.TheVariants.{Number, Tag}
use Rattle.match_knowledge.specs.Patterns as M

abbrev mutual
  pub row_of : Pattern → M.Pattern
  row_of (BinderPattern b) = M.Any
  row_of (LiteralPattern i p) = M.Test 0 (Number i) M.NoPatterns
  row_of (ConstructorPattern t d c n p ps) = M.Test t (Tag c) (rows_of ps)

  pub rows_of : Patterns → M.Patterns
  rows_of NoPatterns = M.NoPatterns
  rows_of (MorePatterns p ps) = M.MorePatterns (row_of p) (rows_of ps)

-- the patterns of clauses, one after another
abbrev pub patterns_in : Clauses → List Pattern
patterns_in NoClauses = []
patterns_in (MoreClauses q b cs) = q ∷ patterns_in cs
