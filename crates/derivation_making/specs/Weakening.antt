-- Derivations that weaken no more than they must: a node that weakens leaves out a variable or a credit, and its part
-- is no such node. For example WEAKEN[0 1|](VAR[1|]) is so, and WEAKEN[1|](VAR[1|]) is not.
use Rattle.std.specs.Prelude.{◌≡◌, ◌<◌, ℕ, Bool, false, List, [], ◌∷◌}
use Rattle.ownership_agreement.specs.ownership_calculus.Items.{Item}
use Rattle.derivation_check.specs.derivation_trees.declared.derivation.Credit as D
use Rattle.derivation_check.specs.derivation_trees.Derivations.{Tree, Missing, Branch, Trees, NoTrees, MoreTrees, Entry}
use Rattle.derivation_check.specs.Owned.{owned, root, is_weaken}
use Rattle.derivation_check.specs.Calculus.{Choice}

abbrev pub weakens : Tree → Bool
weakens Missing = false
weakens (Branch r xs cs ts) = is_weaken r

abbrev pub LeavesOut : List ℕ → List D.Credit → Trees → Type 0
LeavesOut xs cs NoTrees = ⊥
LeavesOut xs cs (MoreTrees t ts) = (weakens t ≡ false) × ((i : Item) × (root t i < owned xs cs i))

abbrev mutual
  pub IsLean : Tree → Type 0
  IsLean Missing = ⊥
  IsLean (Branch r xs cs ts) = Choice (is_weaken r) (LeavesOut xs cs ts) (Unit {0}) × AreLean ts

  pub AreLean : Trees → Type 0
  AreLean NoTrees = Unit {0}
  AreLean (MoreTrees t ts) = IsLean t × AreLean ts

abbrev pub AllLean : List Entry → Type 0
AllLean [] = Unit {0}
AllLean (e ∷ es) = IsLean e.tree × AllLean es
