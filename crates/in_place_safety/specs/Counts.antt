-- For the proofs alone: what an evaluation does to numbers of cells, and no more. `held` gives for each variable and
-- size the cells of its value; `r` gives for each size the cells of the results.
-- In the body of rev, where xs has 3 cells of size 2 and acc has 2: the clause Cons(x, t) binds t to a list of 2 cells,
-- since the pattern's node is the third; its call hands on t's 2, acc's 2 and the new node, so r has 5.
use Rattle.std.specs.Prelude.{◌≡◌, ◌⊎◌, ℕ, ◌+◌, List, [], ◌∷◌, true, false}
use Rattle.ownership_agreement.specs.ownership_calculus.Terms.{Value, Values, Named, Scalar, Built, NoValues, MoreValues, size, paid, given, has}
use Rattle.ownership_agreement.specs.ownership_calculus.Terms.{Passed, Header, PassLent, PassOwned}
use Rattle.ownership_agreement.specs.ownership_calculus.Terms.{Term, Results, Call, Let, Match, Take, Clauses, LastClause, MoreClauses}
use Rattle.ownership_agreement.specs.ownership_calculus.Terms.{Credit}

-- the cells of each variable, by size
abbrev pub Held : Type 0
Held = ℕ → ℕ → ℕ

abbrev mutual
  pub cells_of_value : Held → Value → ℕ → ℕ
  cells_of_value held (Named x) k = held x k
  cells_of_value held Scalar k = 0
  cells_of_value held (Built as') k = paid (size as') (Credit k) + cells_of_values held as' k

  pub cells_of_values : Held → Values → ℕ → ℕ
  cells_of_values held NoValues k = 0
  cells_of_values held (MoreValues a as') k = cells_of_value held a k + cells_of_values held as' k

-- what a callee is given: the cells of its owned arguments, and its header's credits
abbrev pub cells_passed : Held → Passed → ℕ → ℕ
cells_passed held (Header ks) k = given k ks
cells_passed held (PassLent a gs) k = cells_passed held gs k
cells_passed held (PassOwned a gs) k = cells_of_value held a k + cells_passed held gs k

-- of several variables together
abbrev pub total : Held → List ℕ → ℕ → ℕ
total held [] k = 0
total held (x ∷ xs) k = held x k + total held xs k

abbrev pub Once : List ℕ → Type 0
Once [] = Unit {0}
Once (x ∷ xs) = (has xs x ≡ false) × Once xs

-- the same but for the variables that are bound
abbrev pub Binds : List ℕ → Held → Held → Type 0
Binds ys held new = Once ys × ((x : ℕ) → has ys x ≡ false → (k : ℕ) → new x k ≡ held x k)

-- Some evaluation gives results with these cells. Of a call nothing is said where the callee's kind isn't strong
-- enough.
abbrev mutual
  pub Counts : Held → Term → (ℕ → ℕ) → Type 0
  Counts held (Results as') r = (k : ℕ) → r k ≡ cells_of_values held as' k
  Counts held (Call strong gs) r = strong ≡ true → (k : ℕ) → r k ≡ cells_passed held gs k
  Counts held (Let xs a b) r =
      (p : ℕ → ℕ) × (new : Held) × Counts held a p × Binds xs held new × ((k : ℕ) → p k ≡ total new xs k)
      × Counts new b r
  Counts held (Match a cs) r = CountsLent held cs r
  Counts held (Take a cs) r = CountsTaken held (cells_of_value held a) cs r

  pub CountsLent : Held → Clauses → (ℕ → ℕ) → Type 0
  CountsLent held (LastClause ys ks e) r = (new : Held) × Binds ys held new × Counts new e r
  CountsLent held (MoreClauses ys ks e cs) r =
      ((new : Held) × Binds ys held new × Counts new e r) ⊎ CountsLent held cs r

  -- the cells of the value that is matched are those of the pattern's nodes and of what its variables stand for
  pub CountsTaken : Held → (ℕ → ℕ) → Clauses → (ℕ → ℕ) → Type 0
  CountsTaken held v (LastClause ys ks e) r =
      (new : Held) × Binds ys held new × ((k : ℕ) → v k ≡ total new ys k + given k ks) × Counts new e r
  CountsTaken held v (MoreClauses ys ks e cs) r =
      ((new : Held) × Binds ys held new × ((k : ℕ) → v k ≡ total new ys k + given k ks) × Counts new e r)
      ⊎ CountsTaken held v cs r
