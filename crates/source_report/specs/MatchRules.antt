-- The rules on matches, each said of the matches and lets of a body: E42, a variable twice in a pattern or in the
-- binders of a let; E43, a match of more than 64 clauses, or of more than 256 pattern nodes in all; E40, a match with a
-- value that no clause matches; E41, a clause by which no value is matched first.
--
-- Cons(x, Cons(x, x)) breaks E42 at the second x and at the third. With data ints { Nil; Cons(int, ints) } the clauses
-- Nil and Cons(_, Cons(_, _)) leave the values Cons(i, Nil), so the match breaks E40 with the text Cons(_, Nil). Of _, 1
-- the second clause breaks E41. Of 0, 1, 2 the match breaks E40 with the text 3: literals never are all of int. After
-- Cons(0, _) a clause Cons(_, Nil) is reached.
use Rattle.std.specs.Prelude.{◌⊎◌, ℕ, suc, List, [], ◌∷◌, ◌++◌, map, if◌then◌else◌}
use Rattle.cell_lower.specs.fip_language.declared.rule.Rule.TheVariants.{E43}
use Rattle.cell_lower.specs.fip_language.Table.{Table}
use Rattle.cell_lower.specs.fip_trees.Tree.{Pattern, pattern_place, Instance}
use Rattle.cell_lower.specs.fip_trees.Least.{violation}
use Rattle.cell_lower.specs.fip_trees.declared.least.Violation.{Violation}
use Rattle.cell_lower.specs.match_knowledge.Unmatched.{Reached}
use Rattle.cell_lower.specs.match_knowledge.Patterns as K
use Rattle.cell_lower.specs.match_cover.MatchFaults.{is_large, twice_faults, lets_faults, Uncovered, Unreached, AllFit}
use Rattle.source_report.specs.TreeMatches.{bare, binders, Match, matches_block, lets_block}

-- the patterns of its clauses, without names
abbrev pub rows_of : Match → List K.Pattern
rows_of m = map bare m.patterns

-- ---- E42 and E43, in instance i

abbrev pub size_faults : ℕ → Match → List Violation
size_faults i m = if is_large (rows_of m) then violation E43 m.place i 0 [] ∷ [] else []

abbrev pub patterns_faults : ℕ → List Pattern → List Violation
patterns_faults i [] = []
patterns_faults i (q ∷ qs) = twice_faults i [] (binders q) ++ patterns_faults i qs

abbrev pub matches_faults : ℕ → List Match → List Violation
matches_faults i [] = []
matches_faults i (m ∷ ms) = size_faults i m ++ (patterns_faults i m.patterns ++ matches_faults i ms)

-- all of them in these instances, numbered from i on
abbrev pub shape_faults : ℕ → List Instance → List Violation
shape_faults i [] = []
shape_faults i (d ∷ ds) =
    (matches_faults i (matches_block d.body) ++ lets_faults i (lets_block d.body)) ++ shape_faults (suc i) ds

-- ---- E40 and E41, in instance i

-- E41 at one of these clauses, each after those before it
abbrev pub SomeUnreached : Table → ℕ → ℕ → List K.Pattern → List Pattern → Violation → Type 0
SomeUnreached tb i t before [] v = ⊥
SomeUnreached tb i t before (q ∷ qs) v =
    Unreached tb i (pattern_place q) t before (bare q) v ⊎ SomeUnreached tb i t (before ++ bare q ∷ []) qs v

abbrev pub Breaks : Table → ℕ → Match → Violation → Type 0
Breaks tb i m v = SomeUnreached tb i m.ty [] m.patterns v ⊎ Uncovered tb i m.place m.ty (rows_of m) v

abbrev pub SomeBreaks : Table → ℕ → List Match → Violation → Type 0
SomeBreaks tb i [] v = ⊥
SomeBreaks tb i (m ∷ ms) v = Breaks tb i m v ⊎ SomeBreaks tb i ms v

-- one of them in one of these instances, numbered from i on
abbrev pub CoverFault : Table → ℕ → List Instance → Violation → Type 0
CoverFault tb i [] v = ⊥
CoverFault tb i (d ∷ ds) v = SomeBreaks tb i (matches_block d.body) v ⊎ CoverFault tb (suc i) ds v

-- ---- what is right

abbrev pub AreReached : Table → ℕ → List K.Pattern → List Pattern → Type 0
AreReached tb t before [] = Unit {0}
AreReached tb t before (q ∷ qs) = Reached tb t before (bare q) × AreReached tb t (before ++ bare q ∷ []) qs

-- each value is matched by a clause, and by each clause some value is matched first
abbrev pub IsCovered : Table → Match → Type 0
IsCovered tb m = AreReached tb m.ty [] m.patterns × AllFit tb m.ty (rows_of m)

abbrev pub AreCovered : Table → List Match → Type 0
AreCovered tb [] = Unit {0}
AreCovered tb (m ∷ ms) = IsCovered tb m × AreCovered tb ms

abbrev pub AllCovered : Table → List Instance → Type 0
AllCovered tb [] = Unit {0}
AllCovered tb (d ∷ ds) = AreCovered tb (matches_block d.body) × AllCovered tb ds

-- all is covered and reached, and so neither E40 nor E41 is broken
pub record IsRight (tb : Table) (ds : List Instance) : Type 0 where
  pub covered : AllCovered tb ds
  pub unbroken : (v : Violation) → CoverFault tb 0 ds v → ⊥
