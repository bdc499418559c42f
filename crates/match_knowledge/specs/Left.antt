-- It serves the search for values that no row matches: what is asked of it, and what it answers.
use Rattle.std.specs.Prelude.{◌≡◌, ℕ, ◌+◌, ◌<◌, ◌^◌, nat_lt, if◌then◌else◌, Bool, true, false, List, [], ◌∷◌, Some}
use Rattle.std.specs.Prelude.{slice_get}
use Rattle.fip_base.specs.fip_language.Values.{Value}
use Rattle.fip_base.specs.fip_language.Table.{Table, HasType}
use Rattle.match_knowledge.specs.ValueHeads.{IsTidy}
use Rattle.match_knowledge.specs.Patterns.{Pattern, IsPattern, AreRows, row_nodes}
use Rattle.match_knowledge.specs.declared.verdicts.Verdict.{Verdict}
use Rattle.match_knowledge.specs.declared.verdicts.Verdict.TheVariants.{Fits, Misses, Asks}
use Rattle.match_knowledge.specs.declared.unmatched.Choice.{Choice}
use Rattle.match_knowledge.specs.declared.unmatched.Choice.TheVariants.{Covered, Nothing, Ask}
use Rattle.match_knowledge.specs.Known.{Known, compare, row_tests, Alive}
pub use Rattle.match_knowledge.specs.Unmatched.{Left, Missed, Reached, known_of, all_known}

abbrev pub Reports : Bool → Type 0 → Type 0
Reports b P = (b ≡ true → P) × (b ≡ false → P → ⊥)

-- a row with this verdict
abbrev pub HasVerdict : Verdict → List Pattern → Known → ℕ → Type 0
HasVerdict w rows k i = (p : Pattern) × (slice_get rows i ≡ Some p) × (compare p k ≡ w)

abbrev pub AllMiss : List Pattern → Known → Type 0
AllMiss [] k = Unit {0}
AllMiss (p ∷ ps) k = (compare p k ≡ Misses) × AllMiss ps k

-- Covered: all that agree match a row. Ask: that row asks. Which row is asked is free.
abbrev pub IsChoice : List Pattern → Known → Choice → Type 0
IsChoice rows k Covered = (i : ℕ) × HasVerdict Fits rows k i
IsChoice rows k Nothing = Unit {0}
IsChoice rows k (Ask i n) = HasVerdict Asks rows k i

-- the choice with one row more, of weight n
abbrev pub better : Choice → ℕ → ℕ → Choice
better Covered i n = Covered
better Nothing i n = Ask i n
better (Ask j m) i n = if nat_lt n m then Ask i n else Ask j m

abbrev pub next : Choice → Verdict → ℕ → ℕ → Choice
next Covered v i n = Covered
next Nothing Fits i n = Covered
next Nothing Misses i n = Nothing
next Nothing Asks i n = better Nothing i n
next (Ask j m) Fits i n = Covered
next (Ask j m) Misses i n = Ask j m
next (Ask j m) Asks i n = better (Ask j m) i n

-- there is room for the search: no place has so many heads out that an int might be missing
abbrev pub HasRoom : Table → ℕ → List Pattern → Known → Type 0
HasRoom tb t rows k = (m : ℕ) × (m + row_tests rows k < 2 ^ 63) × Alive tb m t k

-- what is asked of a search
pub record IsSearch (tb : Table) (t : ℕ) (rows : List Pattern) (k : Known) : Type 0 where
  pub tidy : IsTidy tb
  pub typed : AreRows tb t rows
  pub room : HasRoom tb t rows k

-- an answer to the search
abbrev pub AnswersLeft : Table → List Pattern → Known → Bool → Type 0
AnswersLeft tb rows k b = (t : ℕ) → IsSearch tb t rows k → Reports b (Left tb t rows k)

-- what is asked of a match before its rows are looked at
pub record IsMatch (tb : Table) (t : ℕ) (rows : List Pattern) : Type 0 where
  pub tidy : IsTidy tb
  pub inhabited : (v : Value) × HasType tb t v
  pub typed : AreRows tb t rows
  pub few : row_nodes rows < 2 ^ 63

-- whether a match misses a value
abbrev pub AnswersMissed : Table → List Pattern → Bool → Type 0
AnswersMissed tb rows b = (t : ℕ) → IsMatch tb t rows → Reports b (Missed tb t rows)

-- whether a pattern is reached after some rows
abbrev pub AnswersReached : Table → List Pattern → Pattern → Bool → Type 0
AnswersReached tb before p b = (t : ℕ) → IsMatch tb t before → IsPattern tb t p → Reports b (Reached tb t before p)
