-- The missing pattern.
-- Positions are walked from the root, then fields from left to right, each with its own fields before the next. `here`
-- are the patterns that the clauses have at a position; `at k` is the choices so far, with k known at the position.
use Rattle.std.specs.Prelude.{◌≡◌, ℕ, ◌<◌, pos, negsuc, Bool, true, false, List, [], ◌∷◌}
use Rattle.match_knowledge.specs.declared.heads.Head.{Head}
use Rattle.match_knowledge.specs.declared.heads.Head.TheVariants.{Number, Tag}
use Rattle.fip_language.specs.Table.{Table}
use Rattle.match_knowledge.specs.ValueHeads.{same_head, IsHead}
use Rattle.match_knowledge.specs.Patterns.{Pattern, Any, Test, Patterns, NoPatterns, MorePatterns}
use Rattle.match_knowledge.specs.Known.{Known, Open, Is, Knowns, NoKnowns, MoreKnowns}
use Rattle.match_knowledge.specs.Unmatched.{Left, known_of}

-- whether some clause has a constructor or a literal at a position
abbrev pub is_tested : List Pattern → Bool
is_tested [] = false
is_tested (Any ∷ ps) = is_tested ps
is_tested (Test t h qs ∷ ps) = true

-- what the clauses that have h here have in its fields
abbrev pub keep_if : Bool → Patterns → List Patterns → List Patterns
keep_if true ps rows = ps ∷ rows
keep_if false ps rows = rows

abbrev pub fields_at : Head → List Pattern → List Patterns
fields_at h [] = []
fields_at h (Any ∷ ps) = fields_at h ps
fields_at h (Test t g qs ∷ ps) = keep_if (same_head g h) qs (fields_at h ps)

abbrev pub heads : List Patterns → List Pattern
heads [] = []
heads (NoPatterns ∷ rows) = heads rows
heads (MorePatterns p ps ∷ rows) = p ∷ heads rows

abbrev pub tails : List Patterns → List Patterns
tails [] = []
tails (NoPatterns ∷ rows) = tails rows
tails (MorePatterns p ps ∷ rows) = ps ∷ tails rows

abbrev pub open_fields : List ℕ → Knowns
open_fields [] = NoKnowns
open_fields (f ∷ fs) = MoreKnowns (Open []) (open_fields fs)

-- a constructor or a number from 0 on, and the order in which they are tried
abbrev pub CanStand : Head → Type 0
CanStand (Number (pos n)) = Unit {0}
CanStand (Number (negsuc n)) = ⊥
CanStand (Tag c) = Unit {0}

abbrev pub Before : Head → Head → Type 0
Before (Number (pos m)) (Number (pos n)) = m < n
Before (Tag c) (Tag d) = c < d
Before g h = ⊥

-- some value that no row matches agrees with all choices so far and has h at this position
abbrev pub MayBe : Table → ℕ → List Pattern → (Known → Known) → ℕ → Head → Type 0
MayBe tb root rows at t h = (fs : List ℕ) × IsHead tb t h fs × Left tb root rows (at (Is h (open_fields fs)))

abbrev mutual
  pub IsMissing : Table → ℕ → List Pattern → (Known → Known) → ℕ → List Pattern → Pattern → Type 0
  IsMissing tb root rows at t here Any = is_tested here ≡ false
  IsMissing tb root rows at t here (Test u h ms) =
      (is_tested here ≡ true) × (u ≡ t) × CanStand h × ((g : Head) → Before g h → MayBe tb root rows at t g → ⊥)
      × (fs : List ℕ) × IsHead tb t h fs × Left tb root rows (at (Is h (open_fields fs)))
      × AreMissing tb root rows (λ ks. at (Is h ks)) fs (fields_at h here) ms

  pub AreMissing : Table → ℕ → List Pattern → (Knowns → Known) → List ℕ → List Patterns → Patterns → Type 0
  AreMissing tb root rows at [] here NoPatterns = Unit {0}
  AreMissing tb root rows at [] here (MorePatterns m ms) = ⊥
  AreMissing tb root rows at (f ∷ fs) here NoPatterns = ⊥
  AreMissing tb root rows at (f ∷ fs) here (MorePatterns m ms) =
      IsMissing tb root rows (λ k. at (MoreKnowns k (open_fields fs))) f (heads here) m
      × AreMissing tb root rows (λ ks. at (MoreKnowns (known_of m) ks)) fs (tails here) ms

-- the missing pattern of a match
abbrev pub IsMissingOf : Table → ℕ → List Pattern → Pattern → Type 0
IsMissingOf tb t rows m = IsMissing tb t rows (λ k. k) t rows m
