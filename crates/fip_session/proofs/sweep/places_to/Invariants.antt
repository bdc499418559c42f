use Rattle.std.proofs.Common.{◌≡◌, ◌⊎◌, ◌<◌, ◌≤◌, ℕ, drop}
use Rattle.std.specs.Prelude.{◌^◌}
use Rattle.fip_language.specs.Store.{count}
use Rattle.store_trees.specs.Added.{places_of}
use Rattle.fip_session.proofs.sweep.places_to.Given as goal

-- the places of the first roots are within
abbrev pub invariant-loop-tree : goal.invariant-loop-tree
invariant-loop-tree l = record {
  within : (p : ℕ) → 0 < count p (places_of l.kept.list.items) → (p < l.length) ⊎ (0 < count p (places_of (drop l.tree-index l.tree-items)));
  few : l.length ≤ 2 ^ 32;
}
