-- For the proof only: what a walk notes whose rule is no test.
use Rattle.std.specs.Prelude.{◌≡◌, ℕ, List, [], ◌∷◌, ◌++◌, map, Option}
use Rattle.fip_language.specs.declared.Place.{Place}
use Rattle.fip_language.specs.Table.{Table}
use Rattle.fip_trees.specs.declared.least.Violation.{Violation}
use Rattle.fip_trees.specs.declared.program.Instance.{Instance}
use Rattle.fip_trees.specs.declared.program.Pattern.{Pattern as Named}
use Rattle.fip_trees.specs.Least.{after, In}
use Rattle.match_knowledge.specs.Patterns.{Pattern}
use Rattle.match_knowledge.specs.Left.{IsMatch, Reached}
use Rattle.match_cover.specs.Matches.{Match, rows_of, block_matches}
use Rattle.match_cover.specs.PatternView.{erased, pattern_place}
use Rattle.match_cover.specs.Coverage.{Unreached, SomeUnreached, Uncovered, Breaks, SomeBreaks, CoverFault}
use Rattle.match_cover.specs.Coverage.{AreReached, AllFit, IsCovered, AreCovered, AllCovered}

-- Just the violations of which P holds are noted between o and p; and where there are none, Good holds.
pub record Gathers (o p : Option Violation) (P : Violation → Type 0) (Good : Type 0) : Type 0 where
  pub list : List Violation
  pub noted : p ≡ after o list
  pub sound : (v : Violation) → In v list → P v
  pub complete : (v : Violation) → P v → In v list
  pub good : list ≡ [] → Good

abbrev pub AreMatches : Table → List Match → Type 0
AreMatches tb [] = Unit {0}
AreMatches tb (m ∷ ms) = IsMatch tb m.ty (rows_of m) × AreMatches tb ms

abbrev pub AllMatches : Table → List Instance → Type 0
AllMatches tb [] = Unit {0}
AllMatches tb (d ∷ ds) = AreMatches tb (block_matches d.body) × AllMatches tb ds

-- what a function notes between o and p, of typed matches

abbrev pub NotesRow : Table → ℕ → List Pattern → Place → Pattern → Option Violation → Option Violation → Type 0
NotesRow tb i before at q o p =
    (t : ℕ) → IsMatch tb t (before ++ q ∷ []) → Gathers o p (Unreached tb i at t before q) (Reached tb t before q)

abbrev pub NotesClause : Table → ℕ → List Pattern → Named → Option Violation → Option Violation → Type 0
NotesClause tb i before q o p =
    NotesRow tb i before (pattern_place q) (erased q) o p

abbrev pub NotesClauses : Table → ℕ → List Pattern → List Named → Option Violation → Option Violation → Type 0
NotesClauses tb i before qs o p =
    (t : ℕ) → IsMatch tb t (before ++ map erased qs) →
    Gathers o p (SomeUnreached tb i t before qs) (AreReached tb t before qs)

abbrev pub NotesMissed : Table → ℕ → Place → ℕ → List Pattern → Option Violation → Option Violation → Type 0
NotesMissed tb i at t rows o p =
    IsMatch tb t rows → Gathers o p (Uncovered tb i at t rows) (AllFit tb t rows)

abbrev pub NotesMatch : Table → ℕ → Match → Option Violation → Option Violation → Type 0
NotesMatch tb i m o p = IsMatch tb m.ty (rows_of m) → Gathers o p (Breaks tb i m) (IsCovered tb m)

abbrev pub NotesAll : Table → ℕ → List Match → Option Violation → Option Violation → Type 0
NotesAll tb i ms o p = AreMatches tb ms → Gathers o p (SomeBreaks tb i ms) (AreCovered tb ms)

abbrev pub NotesBodies : Table → ℕ → List Instance → Option Violation → Option Violation → Type 0
NotesBodies tb i ds o p = AllMatches tb ds → Gathers o p (CoverFault tb i ds) (AllCovered tb ds)

-- what a loop has noted between o and p: what is noted from there on completes it
abbrev pub ClausesDone : Table → ℕ → List Pattern → List Named → List Pattern → List Named → Option Violation →
    Option Violation → Type 0
ClausesDone tb i before qs now rest o p =
    (t : ℕ) → IsMatch tb t (before ++ map erased qs) → (r : Option Violation) →
    Gathers p r (SomeUnreached tb i t now rest) (AreReached tb t now rest) →
    Gathers o r (SomeUnreached tb i t before qs) (AreReached tb t before qs)

abbrev pub MatchesDone : Table → ℕ → List Match → List Match → Option Violation → Option Violation → Type 0
MatchesDone tb i ms rest o p =
    AreMatches tb ms → AreMatches tb rest × ((r : Option Violation) →
    Gathers p r (SomeBreaks tb i rest) (AreCovered tb rest) → Gathers o r (SomeBreaks tb i ms) (AreCovered tb ms))

abbrev pub BodiesDone : Table → List Instance → ℕ → List Instance → Option Violation → Option Violation → Type 0
BodiesDone tb ds i rest o p =
    AllMatches tb ds → AllMatches tb rest × ((r : Option Violation) →
    Gathers p r (CoverFault tb i rest) (AllCovered tb rest) → Gathers o r (CoverFault tb 0 ds) (AllCovered tb ds))
