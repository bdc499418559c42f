-- What the walk gives for a program, of what its expressions need: for just its fip and fbip instances an entry each,
-- in the order of their numbers.
use Rattle.std.specs.Prelude.{◌≡◌, ◌+◌, ℕ, Bool, true, false, List, [], ◌∷◌}
use Rattle.fip_trees.specs.declared.needs.Need.{Need}
use Rattle.fip_trees.specs.NeedsView.{needs_of}
use Rattle.fip_trees.specs.Tree.{Instance, Program}
use Rattle.fip_rules.specs.World.{world, is_ruled}
use Rattle.derivation_trees.specs.Trees.{Entry}
use Rattle.derivation_walk.specs.Guides.{IsWalked}

abbrev pub If : Bool → Type 0 → Type 0 → Type 0
If true A B = A
If false A B = B

abbrev pub First : List Entry → (Entry → List Entry → Type 0) → Type 0
First [] P = ⊥
First (e ∷ es) P = P e es

-- instances numbered from n on
abbrev pub AreWalked : Program → List (List Need) → ℕ → List Instance → List Entry → Type 0
AreWalked p nss n [] [] = Unit {0}
AreWalked p nss n [] (e ∷ es) = ⊥
AreWalked p nss n (d ∷ ds) es =
    If (is_ruled d.kind)
    (First es (λ e rest. (e.instance ≡ n) × IsWalked (world p d.kind) (needs_of nss n) d e.tree
    × AreWalked p nss (n + 1) ds rest))
    (AreWalked p nss (n + 1) ds es)
