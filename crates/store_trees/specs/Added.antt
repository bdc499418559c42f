-- The trees that are added for a word: one for each cell of the tree that it stands for.
--
-- For the word of Cons(1, Cons(2, Nil)), whose cells begin at 0 and 3, two trees of the type of lists are added, with
-- their roots at 0 and at 3; for that of Nil none is.
use Rattle.std.specs.Prelude.{◌≡◌, ℕ, List, ◌++◌, Option, Some, None, map}
use Rattle.fip_base.specs.fip_language.Store.{Placed, PlacedInt, Bare, At, count, uses}
use Rattle.store_trees.specs.declared.trees.Tree.{Tree}

-- the root of a tree of a type, where it has a cell
abbrev pub root_of : ℕ → Placed → Option Tree
root_of ty (PlacedInt i) = None
root_of ty (Bare c) = None
root_of ty (At p c xs) = Some (record { ty = ty; place = p })

abbrev pub places_of : List Tree → List ℕ
places_of ts = map (λ t. t.place) ts

-- each place as often as it is in the tree
pub record Adds (before after : List Tree) (x : Placed) : Type 0 where
  pub added : List Tree
  pub are : after ≡ before ++ added
  pub each : (q : ℕ) → count q (places_of added) ≡ uses q x
