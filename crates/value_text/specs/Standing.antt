-- Which tree a word stands for, in cells by place.
-- A word of a data type is 2c for the constructor c without fields, and 2p + 1 for the cell at place p; an int is its
-- 64 bits. So it is a field's type that decides how its word is read.
-- In flat words with Cons(1, Nil) at 0, Nil being constructor 0 and Cons constructor 1, the cell at 0 has tag 1 and the
-- words 1 (the int) and 0 (Nil), and the list's word is 1.
use Rattle.std.specs.Prelude.{◌≡◌, ℕ, zero, suc, List, [], ◌∷◌, Some, slice_get, FitsSigned}
use Rattle.std.specs.Int.{w64}
use Rattle.fip_language.specs.Table.{Shape, Table, shapes}
use Rattle.fip_language.specs.Store.{Placed, PlacedInt, Bare, At, Parts, NoParts, MoreParts, words_of}
use Rattle.cell_store.specs.Cells.{Cells, cell_at}

-- The cells hold this tree, and it has this type.
abbrev mutual
  pub Stands : Table → Cells → ℕ → Placed → Type 0
  Stands tb cs zero (PlacedInt i) = FitsSigned w64 i
  Stands tb cs zero (Bare c) = ⊥
  Stands tb cs zero (At p c xs) = ⊥
  Stands tb cs (suc t) (PlacedInt i) = ⊥
  Stands tb cs (suc t) (Bare c) = (s : Shape) × (slice_get (shapes tb t) c ≡ Some s) × (s.fields ≡ [])
  Stands tb cs (suc t) (At p c xs) = (cell_at cs p ≡ Some (record { tag = c; fields = words_of xs })) × (s : Shape)
      × (slice_get (shapes tb t) c ≡ Some s) × StandAll tb cs s.fields xs

  pub StandAll : Table → Cells → List ℕ → Parts → Type 0
  StandAll tb cs [] NoParts = Unit {0}
  StandAll tb cs [] (MoreParts x xs) = ⊥
  StandAll tb cs (k ∷ ks) NoParts = ⊥
  StandAll tb cs (k ∷ ks) (MoreParts x xs) = Stands tb cs k x × StandAll tb cs ks xs

-- The cells hold this tree, whatever its type.
abbrev mutual
  pub Holds : Cells → Placed → Type 0
  Holds cs (PlacedInt i) = Unit {0}
  Holds cs (Bare c) = Unit {0}
  Holds cs (At p c xs) = (cell_at cs p ≡ Some (record { tag = c; fields = words_of xs })) × HoldAll cs xs

  pub HoldAll : Cells → Parts → Type 0
  HoldAll cs NoParts = Unit {0}
  HoldAll cs (MoreParts x xs) = Holds cs x × HoldAll cs xs
