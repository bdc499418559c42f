-- It serves the search: the matches of a program as it lies in memory, and the decision tree of each.
-- Rules: matches are numbered from 0 over the instances, and in a body as they are in the text.
use Rattle.std.specs.Prelude.{◌≡◌, ℕ, ◌-◌, ◌<◌, ◌≤◌, ◌⊎◌, List, [], ◌∷◌, ◌++◌, map, length, Option}
use Rattle.std.specs.Prelude.{Some, None, slice_get}
use Rattle.std.specs.List.Sorted.{IsPermutation}
use Rattle.fip_language.specs.declared.Place.{Place}
use Rattle.fip_language.specs.Table.{Table}
use Rattle.fip_trees.specs.declared.program.Expression.{Expression}
use Rattle.fip_trees.specs.declared.program.Expression.TheOpen as E
use Rattle.fip_trees.specs.declared.program.Expression.TheFolds.{fold-Expression, fold-Block, fold-Binding, fold-Clause}
use Rattle.fip_trees.specs.declared.program.Block.{Block}
use Rattle.fip_trees.specs.declared.program.Binding.{Binding}
use Rattle.fip_trees.specs.declared.program.Clause.{Clause}
use Rattle.fip_trees.specs.declared.program.Instance.{Instance}
use Rattle.fip_trees.specs.declared.program.Pattern.{Pattern as Named}
use Rattle.match_knowledge.specs.Patterns.{Pattern}
use Rattle.match_cover.specs.PatternView.{erased, joined}
use Rattle.match_cover.specs.TreeView.{AnswersTree}
use Rattle.match_cover.specs.declared.trees.Tree.{Tree}

-- where a match is, the type of what is matched, and the patterns of its clauses
pub record Match : Type 0 where
  pub place : Place
  pub ty : ℕ
  pub clauses : List Named

-- the patterns without names
abbrev pub rows_of : Match → List Pattern
rows_of m = map erased m.clauses

-- as they are in the text: none is after a later one
abbrev pub NoneBefore : Match → List Match → Type 0
NoneBefore m [] = Unit {0}
NoneBefore m (n ∷ ns) = (m.place.at ≤ n.place.at) × NoneBefore m ns

abbrev pub Ascend : List Match → Type 0
Ascend [] = Unit {0}
Ascend (m ∷ ms) = NoneBefore m ms × Ascend ms

-- the pattern of a clause, and the matches of its body
pub record Arm : Type 0 where
  pub pattern : Named
  pub below : List Match

abbrev pub arm_pattern : Arm → Named
arm_pattern a = a.pattern

abbrev pub below_arms : List Arm → List Match
below_arms [] = []
below_arms (a ∷ rest) = a.below ++ below_arms rest

abbrev pub expression_step : E.Expression-F (List Match) (List Match) (List Match) Arm → List Match
expression_step (E.Give a) = []
expression_step (E.Tuple p xs) = []
expression_step (E.Operation o p l r) = []
expression_step (E.Call g n p xs) = []
expression_step (E.Match k u p a c cs) =
    record { place = p; ty = u; clauses = c.value.pattern ∷ map arm_pattern cs.items }
    ∷ c.value.below ++ below_arms cs.items
expression_step (E.Nested b) = b.value

abbrev pub binding_step : E.Binding-F (List Match) (List Match) (List Match) Arm → List Match
binding_step b = b.bound

abbrev pub block_step : E.Block-F (List Match) (List Match) (List Match) Arm → List Match
block_step b = joined b.bindings.items ++ b.last

abbrev pub clause_step : E.Clause-F (List Match) (List Match) (List Match) Arm → Arm
clause_step c = record { pattern = c.pattern; below = c.body }

-- all matches of an expression and so on; a match before those of its clauses' bodies
abbrev pub expression_matches : Expression → List Match
expression_matches =
    fold-Expression (List Match) (List Match) (List Match) Arm expression_step binding_step block_step clause_step

abbrev pub binding_matches : Binding → List Match
binding_matches =
    fold-Binding (List Match) (List Match) (List Match) Arm expression_step binding_step block_step clause_step

abbrev pub block_matches : Block → List Match
block_matches =
    fold-Block (List Match) (List Match) (List Match) Arm expression_step binding_step block_step clause_step

abbrev pub arm : Clause → Arm
arm = fold-Clause (List Match) (List Match) (List Match) Arm expression_step binding_step block_step clause_step

-- match number m of a body, as its matches are in the text
pub record IsNumbered (b : Block) (m : ℕ) (found : Match) : Type 0 where
  pub order : List Match
  pub same : IsPermutation (block_matches b) order
  pub sorted : Ascend order
  pub there : slice_get order m ≡ Some found

-- The tree of match number m of these instances; none where they have no such match.
abbrev pub IsDecisionOf : Table → List Instance → ℕ → Option Tree → Type 0
IsDecisionOf tb [] m o = o ≡ None
IsDecisionOf tb (d ∷ ds) m o =
    ((m < length (block_matches d.body)) × (found : Match) × IsNumbered d.body m found
    × AnswersTree tb (rows_of found) o)
    ⊎ ((length (block_matches d.body) ≤ m) × IsDecisionOf tb ds (m - length (block_matches d.body)) o)
