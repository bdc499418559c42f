-- The same calculus by cases on the term, for the proofs: what is left over is left out where it is split.
use Rattle.std.specs.Prelude.{◌≡◌, ℕ, List, [], Bool, true, false, ◌+◌}
use Rattle.ownership_calculus.specs.Terms.{Value, Values, Named, Scalar, Built, NoValues, MoreValues, size}
use Rattle.ownership_calculus.specs.Terms.{Passed, Header, PassLent, PassOwned}
use Rattle.ownership_calculus.specs.Terms.{Term, Results, Call, Let, Match, Take, Clauses, LastClause, MoreClauses}
use Rattle.ownership_calculus.specs.Terms.{Item, Own, Credit, has, only, paid, given, charge}
use Rattle.ownership_calculus.specs.Rules.{Fits, worth, lending, setting, Lends}

-- Q is R with the binders ys, owned or borrowed, and the credits ks, or less in fbip
pub record Opens (fip own : Bool) (ys ks : List ℕ) (R Q : Item → ℕ) : Type 0 where
  pub bound : (y : ℕ) → has ys y ≡ true → Q (Own y) ≡ worth own
  pub hidden : (y : ℕ) → has ys y ≡ true → Fits fip (R (Own y)) 0
  pub others : (y : ℕ) → has ys y ≡ false → Fits fip (R (Own y)) (Q (Own y))
  pub credits : (k : ℕ) → Fits fip (R (Credit k) + given k ks) (Q (Credit k))

abbrev mutual
  pub DerivesValue : Bool → (Item → ℕ) → Value → Type 0
  DerivesValue fip O (Named x) = (i : Item) → Fits fip (O i) (only x i)
  DerivesValue fip O Scalar = (i : Item) → Fits fip (O i) 0
  DerivesValue fip O (Built as') =
      (P : Item → ℕ) × ((i : Item) → Fits fip (O i) (paid (size as') i + P i)) × DerivesValues fip P as'

  pub DerivesValues : Bool → (Item → ℕ) → Values → Type 0
  DerivesValues fip O NoValues = (i : Item) → Fits fip (O i) 0
  DerivesValues fip O (MoreValues a as') =
      (P : Item → ℕ) × (Q : Item → ℕ) × ((i : Item) → Fits fip (O i) (P i + Q i))
      × DerivesValue fip P a × DerivesValues fip Q as'

abbrev pub DerivesPassed : Bool → (ℕ → Bool) → (Item → ℕ) → Passed → Type 0
DerivesPassed fip B O (Header ks) = (i : Item) → Fits fip (O i) (charge ks i)
DerivesPassed fip B O (PassLent a gs) = Lends B a × DerivesPassed fip B O gs
DerivesPassed fip B O (PassOwned a gs) =
    (P : Item → ℕ) × (Q : Item → ℕ) × ((i : Item) → Fits fip (O i) (P i + Q i))
    × DerivesValue fip P a × DerivesPassed fip B Q gs

abbrev mutual
  pub Derives : Bool → (ℕ → Bool) → (Item → ℕ) → Term → Type 0
  Derives fip B O (Results as') = DerivesValues fip O as'
  Derives fip B O (Call strong gs) = (strong ≡ true) × DerivesPassed fip B O gs
  Derives fip B O (Let xs a b) =
      (P : Item → ℕ) × (R : Item → ℕ) × (Q : Item → ℕ) × ((i : Item) → Fits fip (O i) (P i + R i))
      × Opens fip true xs [] R Q × Derives fip (lending B R) P a × Derives fip (setting xs false B) Q b
  Derives fip B O (Match a cs) = Lends B a × DerivesLent fip B O cs
  Derives fip B O (Take a cs) =
      (P : Item → ℕ) × (R : Item → ℕ) × ((i : Item) → Fits fip (O i) (P i + R i))
      × DerivesValue fip P a × DerivesTaken fip B R cs

  pub DerivesLent : Bool → (ℕ → Bool) → (Item → ℕ) → Clauses → Type 0
  DerivesLent fip B O (LastClause ys ks e) =
      (Q : Item → ℕ) × Opens fip false ys [] O Q × Derives fip (setting ys true B) Q e
  DerivesLent fip B O (MoreClauses ys ks e cs) =
      (Q : Item → ℕ) × Opens fip false ys [] O Q × Derives fip (setting ys true B) Q e × DerivesLent fip B O cs

  pub DerivesTaken : Bool → (ℕ → Bool) → (Item → ℕ) → Clauses → Type 0
  DerivesTaken fip B R (LastClause ys ks e) =
      (Q : Item → ℕ) × Opens fip true ys ks R Q × Derives fip (setting ys false B) Q e
  DerivesTaken fip B R (MoreClauses ys ks e cs) =
      (Q : Item → ℕ) × Opens fip true ys ks R Q × Derives fip (setting ys false B) Q e × DerivesTaken fip B R cs
