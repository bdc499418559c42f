-- What a match or a let breaks: E42 of the variables of a pattern or a let, E43 of the patterns of a match, E40 and E41
-- of its patterns for values of a type.
use Rattle.std.specs.Prelude.{ℕ, ◌+◌, ◌||◌, Bool, false, nat_lt, if◌then◌else◌, List, [], ◌∷◌, ◌++◌, length, suc, ◌≡◌}
use Rattle.std.specs.Prelude.{true}
use Rattle.std.specs.List.{list_any}
use Rattle.fip_language.specs.declared.rule.Rule.TheVariants.{E42, E40, E41}
use Rattle.fip_language.specs.Declarations.{same_name}
use Rattle.fip_language.specs.declared.limits.TheConstants.{MOST_CLAUSES, MOST_PATTERN_NODES}
use Rattle.fip_trees.specs.declared.least.Violation.{Violation}
use Rattle.fip_trees.specs.declared.program.Binder.{Binder}
use Rattle.fip_trees.specs.Least.{violation}
use Rattle.match_knowledge.specs.Patterns.{Pattern, Any, Test, Patterns, NoPatterns, MorePatterns, some_fits}
use Rattle.fip_language.specs.declared.Place.{Place}
use Rattle.fip_language.specs.Values.{Value}
use Rattle.fip_language.specs.Table.{Table, HasType}
use Rattle.match_knowledge.specs.Unmatched.{Missed, Reached}
use Rattle.match_cover.specs.MissingPattern.{IsMissingOf}
use Rattle.match_cover.specs.PatternText.{pattern_text}

-- the number of its nodes: each variable, literal and constructor is one
abbrev mutual
  pub pattern_nodes : Pattern → ℕ
  pattern_nodes Any = 1
  pattern_nodes (Test t h ps) = suc (parts_nodes ps)

  pub parts_nodes : Patterns → ℕ
  parts_nodes NoPatterns = 0
  parts_nodes (MorePatterns p ps) = pattern_nodes p + parts_nodes ps

abbrev pub total_nodes : List Pattern → ℕ
total_nodes [] = 0
total_nodes (p ∷ ps) = pattern_nodes p + total_nodes ps

abbrev pub is_large : List Pattern → Bool
is_large ps = nat_lt MOST_CLAUSES (length ps) || nat_lt MOST_PATTERN_NODES (total_nodes ps)

-- a binder of the name _ is named by nothing
abbrev pub is_unnamed : List ℕ → Bool
is_unnamed n = same_name n (95 ∷ [])

abbrev pub is_met : List ℕ → List (List ℕ) → Bool
is_met n met = list_any (same_name n) met

-- whether a name was met, and the names that are met with it, each once
abbrev pub is_twice : List ℕ → List (List ℕ) → Bool
is_twice n met = if is_unnamed n then false else is_met n met

abbrev pub meet : List ℕ → List (List ℕ) → List (List ℕ)
meet n met = if is_unnamed n then met else if is_met n met then met else met ++ n ∷ []

-- the variables whose name was met
abbrev pub binder_faults : ℕ → List (List ℕ) → Binder → List Violation
binder_faults i met b = if is_twice b.name met then violation E42 b.place i 0 b.name ∷ [] else []

abbrev pub twice_faults : ℕ → List (List ℕ) → List Binder → List Violation
twice_faults i met [] = []
twice_faults i met (b ∷ bs) = binder_faults i met b ++ twice_faults i (meet b.name met) bs

abbrev pub lets_faults : ℕ → List (List Binder) → List Violation
lets_faults i [] = []
lets_faults i (bs ∷ rest) = twice_faults i [] bs ++ lets_faults i rest

-- E40 at a place: values of type t are matched by no row; the detail is the text of the missing pattern
abbrev pub Uncovered : Table → ℕ → Place → ℕ → List Pattern → Violation → Type 0
Uncovered tb i p t rows v =
    Missed tb t rows × (q : Pattern) × IsMissingOf tb t rows q × (v ≡ violation E40 p i 0 (pattern_text tb q))

-- E41 at the place of a clause after these rows
abbrev pub Unreached : Table → ℕ → Place → ℕ → List Pattern → Pattern → Violation → Type 0
Unreached tb i at t before p v = (Reached tb t before p → ⊥) × (v ≡ violation E41 at i 0 [])

-- each value is matched by a clause
abbrev pub AllFit : Table → ℕ → List Pattern → Type 0
AllFit tb t rows = (v : Value) → HasType tb t v → some_fits rows v ≡ true
