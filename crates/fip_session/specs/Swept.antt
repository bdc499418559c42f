-- For private contracts alone: which places are marked.
use Rattle.std.specs.Prelude.{◌≡◌, ℕ, ◌<◌, Bool, true, List, Some, slice_get}
use Rattle.fip_language.specs.Store.{count}
use Rattle.store_trees.specs.Added.{places_of}
use Rattle.store_trees.specs.declared.trees.Tree.{Tree}

-- The places of these roots are marked, and no others.
pub record IsMarked (list : List Tree) (marks : List Bool) : Type 0 where
  pub yes : (p : ℕ) → slice_get marks p ≡ Some true → 0 < count p (places_of list)
  pub all : (p : ℕ) → 0 < count p (places_of list) → slice_get marks p ≡ Some true
