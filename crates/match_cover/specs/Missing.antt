-- It serves the search for the missing pattern: what clauses have below a position, and what is known above it.
use Rattle.std.specs.Prelude.{ℕ, zero, suc, Bool, true, false, if◌then◌else◌}
use Rattle.std.specs.Prelude.{List, [], ◌∷◌, ◌++◌, Option, Some, None}
use Rattle.match_knowledge.specs.declared.heads.Head.{Head}
use Rattle.match_knowledge.specs.ValueHeads.{same_head}
use Rattle.match_knowledge.specs.Patterns.{Pattern, Any, Test, Patterns, NoPatterns, MorePatterns}
use Rattle.match_knowledge.specs.Known.{Known, Is}
use Rattle.match_knowledge.specs.View.{knowns_of}
pub use Rattle.match_cover.specs.MissingPattern.{is_tested, keep_if, fields_at, heads, tails, open_fields, CanStand}
pub use Rattle.match_cover.specs.MissingPattern.{Before, MayBe, IsMissing, AreMissing, IsMissingOf}

abbrev pub is_test : Pattern → Bool
is_test Any = false
is_test (Test t h qs) = true

-- what one of them has at the j-th field
abbrev pub part_at : ℕ → Patterns → Option Pattern
part_at j NoPatterns = None
part_at zero (MorePatterns p ps) = Some p
part_at (suc j) (MorePatterns p ps) = part_at j ps

abbrev pub part_below : Head → ℕ → Pattern → Option Pattern
part_below h j Any = None
part_below h j (Test t g qs) = if same_head g h then part_at j qs else None

abbrev pub put_part : Option Pattern → List Pattern → List Pattern
put_part None ps = ps
put_part (Some p) ps = p ∷ ps

-- what the clauses that have h here have in its j-th field
abbrev pub rows_below : Head → ℕ → List Pattern → List Pattern
rows_below h j [] = []
rows_below h j (p ∷ ps) = put_part (part_below h j p) (rows_below h j ps)

-- a node above a position: its head, and what is known of its fields before and after the one that leads there
pub record Level : Type 0 where
  pub head : Head
  pub before : List Known
  pub following : List Known

-- what is known of the node, with k known of that field
abbrev pub inside : Level → Known → Known
inside l k = Is l.head (knowns_of (l.before ++ k ∷ l.following))

-- what is known at the root, with k known below these nodes, the outermost first
abbrev pub placed : List Level → Known → Known
placed [] k = k
placed (l ∷ ls) k = inside l (placed ls k)
