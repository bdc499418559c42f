-- It serves the proofs on lowered code: positions that get more positions below them, with the registers from one on.
use Rattle.std.specs.Prelude.{◌≡◌, ◌⊎◌, ◌<◌, ◌≤◌, ℕ}
use Rattle.tree_semantics.specs.fip_language.Every.{Among}
use Rattle.credit_check.specs.fip_trees.Tree.{Pattern, Patterns}
use Rattle.lowering_relation.specs.Spots.{Spot, Spots, register, below, all_in, Differ, AllDiffer}
use Rattle.lowering_relation.specs.Opening.{Roomy, AllRoomy}

pub record Grows (s t : Spot) (from to : ℕ) : Type 0 where
  pub register : register t ≡ register s
  pub grows : from ≤ to
  pub new : (z : ℕ) → Among z (below t) → Among z (below s) ⊎ ((from ≤ z) × (z < to))
  pub roomy : (q : Pattern) → Roomy q s → Roomy q t
  pub differ : ((z : ℕ) → Among z (below s) → z < from) → Differ s → Differ t

pub record AllGrow (ss ts : Spots) (from to : ℕ) : Type 0 where
  pub grows : from ≤ to
  pub new : (z : ℕ) → Among z (all_in ts) → Among z (all_in ss) ⊎ ((from ≤ z) × (z < to))
  pub roomy : (ps : Patterns) → AllRoomy ps ss → AllRoomy ps ts
  pub differ : ((z : ℕ) → Among z (all_in ss) → z < from) → AllDiffer ss → AllDiffer ts
