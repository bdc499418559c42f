-- It serves the proof that a builder counts parts rightly: how many parts nodes have, and where the open ones are.
use Rattle.std.specs.Prelude.{◌≡◌, ℕ, ◌<◌, List, Some, slice_get}
use Rattle.derivation_trees.specs.Trees.{Head}

-- each place is below n
abbrev pub AreThere : ℕ → List ℕ → Type 0
AreThere n is = (k i : ℕ) → slice_get is k ≡ Some i → i < n

-- each node has fewer than n parts
abbrev pub HaveFewParts : ℕ → List Head → Type 0
HaveFewParts n hs = (k : ℕ) (h : Head) → slice_get hs k ≡ Some h → h.parts < n
