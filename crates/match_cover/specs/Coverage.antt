-- It serves the search: E40 and E41 as they are looked for in memory. (`source_report::MatchRules` says them of trees.) E40,
-- a match with a value that no clause matches; E41, a clause by which no value is matched first.
-- Example: data ints { Nil; Cons(int, ints) }. The clauses Nil and Cons(_, Cons(_, _)) leave the values Cons(i, Nil),
-- so the match breaks E40 with the text Cons(_, Nil). Of _, 1 the second clause breaks E41. Of 0, 1, 2 the match breaks
-- E40 with the text 3: literals never are all of int. After Cons(0, _) a clause Cons(_, Nil) is reached.
use Rattle.std.specs.Prelude.{◌⊎◌, ℕ, suc, List, [], ◌∷◌, ◌++◌}
use Rattle.fip_language.specs.Values.{Value}
use Rattle.fip_language.specs.Table.{Table, HasType}
use Rattle.fip_trees.specs.declared.least.Violation.{Violation}
use Rattle.fip_trees.specs.declared.program.Instance.{Instance}
use Rattle.fip_trees.specs.declared.program.Pattern.{Pattern as Named}
use Rattle.match_knowledge.specs.ValueHeads.{IsTidy}
use Rattle.match_knowledge.specs.Patterns.{Pattern, AreRows}
use Rattle.match_knowledge.specs.Unmatched.{Reached}
use Rattle.match_cover.specs.PatternView.{erased, pattern_place}
use Rattle.match_cover.specs.Matches.{Match, rows_of, block_matches}
pub use Rattle.match_cover.specs.MatchFaults.{Uncovered, Unreached, AllFit}

-- ---- what is broken, in instance i

-- E41 at one of these clauses, each after those before it
abbrev pub SomeUnreached : Table → ℕ → ℕ → List Pattern → List Named → Violation → Type 0
SomeUnreached tb i t before [] v = ⊥
SomeUnreached tb i t before (p ∷ ps) v =
    Unreached tb i (pattern_place p) t before (erased p) v ⊎ SomeUnreached tb i t (before ++ erased p ∷ []) ps v

abbrev pub Breaks : Table → ℕ → Match → Violation → Type 0
Breaks tb i m v = SomeUnreached tb i m.ty [] m.clauses v ⊎ Uncovered tb i m.place m.ty (rows_of m) v

abbrev pub SomeBreaks : Table → ℕ → List Match → Violation → Type 0
SomeBreaks tb i [] v = ⊥
SomeBreaks tb i (m ∷ ms) v = Breaks tb i m v ⊎ SomeBreaks tb i ms v

-- E40 or E41 in one of these instances, numbered from i on
abbrev pub CoverFault : Table → ℕ → List Instance → Violation → Type 0
CoverFault tb i [] v = ⊥
CoverFault tb i (d ∷ ds) v = SomeBreaks tb i (block_matches d.body) v ⊎ CoverFault tb (suc i) ds v

-- ---- what is right

abbrev pub AreReached : Table → ℕ → List Pattern → List Named → Type 0
AreReached tb t before [] = Unit {0}
AreReached tb t before (p ∷ ps) = Reached tb t before (erased p) × AreReached tb t (before ++ erased p ∷ []) ps

-- each value is matched by a clause, and by each clause some value is matched first
abbrev pub IsCovered : Table → Match → Type 0
IsCovered tb m = AreReached tb m.ty [] m.clauses × AllFit tb m.ty (rows_of m)

abbrev pub AreCovered : Table → List Match → Type 0
AreCovered tb [] = Unit {0}
AreCovered tb (m ∷ ms) = IsCovered tb m × AreCovered tb ms

abbrev pub AllCovered : Table → List Instance → Type 0
AllCovered tb [] = Unit {0}
AllCovered tb (d ∷ ds) = AreCovered tb (block_matches d.body) × AllCovered tb ds

-- ---- of which programs this is said: those that declarations and typing have accepted

-- the type of what is matched has values, and the patterns are of that type
pub record IsTypedMatch (tb : Table) (m : Match) : Type 0 where
  pub inhabited : (v : Value) × HasType tb m.ty v
  pub typed : AreRows tb m.ty (rows_of m)

abbrev pub AreTypedMatches : Table → List Match → Type 0
AreTypedMatches tb [] = Unit {0}
AreTypedMatches tb (m ∷ ms) = IsTypedMatch tb m × AreTypedMatches tb ms

abbrev pub AreTypedBodies : Table → List Instance → Type 0
AreTypedBodies tb [] = Unit {0}
AreTypedBodies tb (d ∷ ds) = AreTypedMatches tb (block_matches d.body) × AreTypedBodies tb ds

-- the fields of each constructor have values, and each match is typed
pub record IsReady (tb : Table) (ds : List Instance) : Type 0 where
  pub tidy : IsTidy tb
  pub typed : AreTypedBodies tb ds
