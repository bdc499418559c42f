-- What the nodes of a derivation have: owned variables, each once, and for each size a number of credits.
use Rattle.std.specs.Prelude.{◌≡◌, ◌⊎◌, ◌<◌, ◌≤◌, ◌+◌, ◌==◌, ℕ, suc, Bool, true, false, List, [], ◌∷◌, if◌then◌else◌}
use Rattle.ownership_calculus.specs.Items.{Item, Own, Credit, given}
use Rattle.derivation_trees.specs.declared.derivation.RuleName.{RuleName}
use Rattle.derivation_trees.specs.declared.derivation.RuleName.TheVariants as R
use Rattle.derivation_trees.specs.declared.derivation.Credit as D
use Rattle.derivation_trees.specs.Derivations.{Tree, Missing, Branch, Trees, NoTrees, MoreTrees}

-- how many credits of a size
abbrev pub amount : ℕ → List D.Credit → ℕ
amount k [] = 0
amount k (c ∷ cs) = (if c.size == k then c.count else 0) + amount k cs

abbrev pub owned : List ℕ → List D.Credit → Item → ℕ
owned xs cs (Own x) = given x xs
owned xs cs (Credit k) = amount k cs

-- what a node has, and what some have together
abbrev pub root : Tree → Item → ℕ
root Missing i = 0
root (Branch r xs cs ts) i = owned xs cs i

abbrev pub roots : Trees → Item → ℕ
roots NoTrees i = 0
roots (MoreTrees t ts) i = root t i + roots ts i

-- numbers that rise, from n on and all below d
abbrev pub Rising : ℕ → ℕ → List ℕ → Type 0
Rising n d [] = Unit {0}
Rising n d (x ∷ xs) = (n ≤ x) × (x < d) × Rising (x + 1) d xs

-- credits whose sizes rise, from n on to 16, at least one of each
abbrev pub RisingSizes : ℕ → List D.Credit → Type 0
RisingSizes n [] = Unit {0}
RisingSizes n (c ∷ cs) = (n ≤ c.size) × (c.size < 17) × (0 < c.count) × RisingSizes (c.size + 1) cs

-- Its variables rise, all below d, and its credits' sizes rise.
abbrev pub IsOwned : ℕ → Tree → Type 0
IsOwned d Missing = ⊥
IsOwned d (Branch r xs cs ts) = Rising 0 d xs × RisingSizes 1 cs

abbrev pub AreOwned : ℕ → Trees → Type 0
AreOwned d NoTrees = Unit {0}
AreOwned d (MoreTrees t ts) = IsOwned d t × AreOwned d ts

abbrev pub is_weaken : RuleName → Bool
is_weaken R.Variable = false
is_weaken R.Scalar = false
is_weaken R.Tuple = false
is_weaken R.Atom = false
is_weaken R.Reuse = false
is_weaken R.Let = false
is_weaken R.Call = false
is_weaken R.Match = false
is_weaken R.TakingMatch = false
is_weaken R.Weaken = true

abbrev mutual
  -- WEAKEN: u is t, or is in t below nodes that weaken, which an fbip function may. Each leaves to its part no
  -- more than it has.
  pub Under : Bool → ℕ → Tree → Tree → Type 0
  Under fip d Missing u = ⊥
  Under fip d (Branch r xs cs ts) u =
      ((is_weaken r ≡ false) × (Branch r xs cs ts ≡ u))
      ⊎ ((is_weaken r ≡ true) × (fip ≡ false) × UnderPart fip d xs cs ts u)

  pub UnderPart : Bool → ℕ → List ℕ → List D.Credit → Trees → Tree → Type 0
  UnderPart fip d xs cs NoTrees u = ⊥
  UnderPart fip d xs cs (MoreTrees t NoTrees) u =
      IsOwned d t × ((i : Item) → root t i ≤ owned xs cs i) × Under fip d t u
  UnderPart fip d xs cs (MoreTrees t (MoreTrees s ts)) u = ⊥

-- a node of this rule, which has nothing and no parts
abbrev pub Leaf : Bool → ℕ → RuleName → Tree → Type 0
Leaf fip d r t = Under fip d t (Branch r [] [] NoTrees)

-- A node of this rule, which has these things and what its parts have together; P reports of the parts.
abbrev pub Splits : Bool → ℕ → RuleName → (Item → ℕ) → (Trees → Type 0) → Tree → Type 0
Splits fip d r these P t =
    (xs : List ℕ) × (cs : List D.Credit) × (ts : Trees) × Under fip d t (Branch r xs cs ts) × AreOwned d ts
    × ((i : Item) → owned xs cs i ≡ these i + roots ts i) × P ts
