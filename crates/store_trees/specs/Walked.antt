-- For private contracts alone: the trees that are still to be gone into, and those below them.
use Rattle.std.specs.Prelude.{◌≡◌, ℕ, suc, ◌+◌, List, [], ◌∷◌, ◌++◌, Option, Some, None, length, map, slice_get}
use Rattle.fip_base.specs.fip_language.Store.{Parts, MoreParts, words_of, places_of_all, one_at}
use Rattle.fip_base.specs.fip_language.Store.{uses_of_all, count}
use Rattle.fip_base.specs.fip_language.Table.{Shape, Table, constructors}
use Rattle.cell_store.specs.Cells.{Cells, cell_at}
use Rattle.value_text.specs.Standing.{StandAll}
use Rattle.store_trees.specs.declared.trees.Tree.{Tree}
use Rattle.store_trees.specs.Added.{root_of, places_of}

abbrev pub with_root : List Tree → Option Tree → List Tree
with_root ts None = ts
with_root ts (Some t) = ts ++ t ∷ []

-- the roots of the parts of a tree, of these types, that have a cell
abbrev pub roots_of : List ℕ → Parts → List Tree
roots_of (k ∷ ks) (MoreParts x xs) = with_root [] (root_of k x) ++ roots_of ks xs
roots_of ks xs = []

-- a tree whose root's cell is known
pub record Ahead : Type 0 where
  pub ty : ℕ
  pub place : ℕ
  pub constructor : ℕ
  pub fields : List ℕ
  pub parts : Parts

pub record IsAhead (tb : Table) (cs : Cells) (a : Ahead) : Type 0 where
  pub cell : cell_at cs a.place ≡ Some (record { tag = a.constructor; fields = words_of a.parts })
  pub shape : Shape
  pub there : slice_get (constructors tb a.ty) a.constructor ≡ Some shape
  pub types : shape.fields ≡ a.fields
  pub stand : StandAll tb cs a.fields a.parts

abbrev pub root : Ahead → Tree
root a = record { ty = a.ty; place = a.place }

abbrev pub roots : List Ahead → List Tree
roots ahead = map root ahead

abbrev pub AllStand : Table → Cells → List Ahead → Type 0
AllStand tb cs [] = Unit {0}
AllStand tb cs (a ∷ ahead) = IsAhead tb cs a × AllStand tb cs ahead

-- how many of their cells are at this place
abbrev pub uses_ahead : ℕ → List Ahead → ℕ
uses_ahead q [] = 0
uses_ahead q (a ∷ ahead) = (one_at q a.place + uses_of_all q a.parts) + uses_ahead q ahead

-- how many cells they have
abbrev pub cells_ahead : List Ahead → ℕ
cells_ahead [] = 0
cells_ahead (a ∷ ahead) = suc (length (places_of_all a.parts)) + cells_ahead ahead

-- from a place of the list on these are ahead
pub record AreAhead (tb : Table) (cs : Cells) (front : List Tree) (ahead : List Ahead) (start : ℕ)
    (list : List Tree) : Type 0 where
  pub are : list ≡ front ++ roots ahead
  pub at : start ≡ length front
  pub stand : AllStand tb cs ahead

-- after the front there is a tree for each of their cells
pub record AddsAll (front list : List Tree) (ahead : List Ahead) : Type 0 where
  pub added : List Tree
  pub are : list ≡ front ++ added
  pub each : (q : ℕ) → count q (places_of added) ≡ uses_ahead q ahead
