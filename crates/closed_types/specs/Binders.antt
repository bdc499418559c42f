-- How many binders there are in a function: its parameters, and those of its lets and patterns.
-- In `fun f(a: int): int { let b = a; b }` there are two.
use Rattle.std.specs.Prelude.{ℕ, ◌+◌, length}
use Rattle.fip_base.specs.fip_language.Core as C
use Rattle.fip_base.specs.fip_language.Core.{Function}

abbrev mutual
  pub binders_in_pattern : C.Pattern → ℕ
  binders_in_pattern (C.BinderPattern b) = 1
  binders_in_pattern (C.LiteralPattern i p) = 0
  binders_in_pattern (C.ConstructorPattern x p ps) = binders_in_patterns ps

  pub binders_in_patterns : C.Patterns → ℕ
  binders_in_patterns C.NoPatterns = 0
  binders_in_patterns (C.MorePatterns p ps) = binders_in_pattern p + binders_in_patterns ps

abbrev mutual
  pub binders_in_expression : C.Expression → ℕ
  binders_in_expression (C.Give a) = 0
  binders_in_expression (C.Tuple p as') = 0
  binders_in_expression (C.Operation o p a b) = 0
  binders_in_expression (C.Call x p ws as') = 0
  binders_in_expression (C.Match d p a cs) = binders_in_clauses cs
  binders_in_expression (C.Nested b) = binders_in_block b

  pub binders_in_block : C.Block → ℕ
  binders_in_block (C.Last e) = binders_in_expression e
  binders_in_block (C.Let bs e rest) = length bs + (binders_in_expression e + binders_in_block rest)

  pub binders_in_clauses : C.Clauses → ℕ
  binders_in_clauses C.NoClauses = 0
  binders_in_clauses (C.MoreClauses p b rest) =
      binders_in_pattern p + (binders_in_block b + binders_in_clauses rest)

abbrev pub binders_in : Function → ℕ
binders_in f = length f.parameters + binders_in_block f.body
