-- Which trees the slots of variables stand for. It serves the proof that an evaluation gives what its program means.
use Rattle.std.specs.Prelude.{◌≡◌, ◌≢◌, ℕ, ◌+◌, ◌<◌, List, Some, slice_get}
use Rattle.fip_trees.specs.fip_language.Values.{Value as Tree}
use Rattle.fip_trees.specs.fip_language.Meaning.{Environment}
use Rattle.plain_rows.specs.declared.store.Value.{Value}
use Rattle.plain_rows.specs.declared.store.Store.{Store}
use Rattle.plain_rows.specs.Rows.{Stands}
use Rattle.plain_eval.specs.declared.variables.Variables.{Variables}

-- the value at a place stands for the tree
abbrev pub StandsAt : Store → List Value → ℕ → Tree → Type 0
StandsAt s ws i v = (w : Value) × (slice_get ws i ≡ Some w) × Stands s w v

-- each variable of the environment has its slot, from a place on to an end, and the slot stands for its tree
abbrev pub Covers : Store → List Value → ℕ → ℕ → Environment → Type 0
Covers s ws base end env = (x : ℕ) (v : Tree) → env x ≡ Some v → (base + x < end) × StandsAt s ws (base + x) v

abbrev pub CoversNow : Store → Variables → Environment → Type 0
CoversNow s vars env = Covers s vars.values.items vars.base vars.end env

-- what was at one of the first n places is there still
abbrev pub Keeps : ℕ → Store → List Value → Store → List Value → Type 0
Keeps n s ws t us = (i : ℕ) (v : Tree) → i < n → StandsAt s ws i v → StandsAt t us i v

-- and is at another place than this one
abbrev pub KeepsOff : ℕ → Store → List Value → List Value → Type 0
KeepsOff p s ws us = (i : ℕ) (v : Tree) → StandsAt s ws i v → StandsAt s us i v × (i ≢ p)

-- what was anywhere is there still
abbrev pub KeepsAll : Store → List Value → Store → List Value → Type 0
KeepsAll s ws t us = (i : ℕ) (v : Tree) → StandsAt s ws i v → StandsAt t us i v
