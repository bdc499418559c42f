-- Which tree a value stands for, in a store of rows.
-- An int stands for itself, a constructor without fields for its node, and a row for the node of its constructor and of
-- the trees that its fields stand for. A row's fields name only rows before it.
-- With Cons(1, Nil) at row 0, where Nil is constructor 0 and Cons constructor 1, the row has the tag 1 and the fields
-- Int 1 and Bare 0, and the list is Row 0.
use Rattle.std.specs.Prelude.{◌≡◌, ℕ, ◌+◌, ◌<◌, ◌≤◌, List, [], ◌∷◌, length, take, drop, Some, slice_get}
use Rattle.fip_base.specs.fip_language.Values.{Value as Tree, Int, Node, Values, End, More as Further}
use Rattle.plain_rows.specs.declared.store.Value.{Value}
use Rattle.plain_rows.specs.declared.store.Value.TheVariants as V
use Rattle.plain_rows.specs.declared.store.Head.{Head}
use Rattle.plain_rows.specs.declared.store.Store.{Store}
use Rattle.plain_rows.specs.declared.load.Rows.{Rows}

abbrev pub count_rows : Store → ℕ
count_rows s = length s.heads.items

abbrev pub count_fields : Store → ℕ
count_fields s = length s.fields.items

-- row r has this constructor and these fields
pub record IsRow (s : Store) (r c : ℕ) (xs : List Value) : Type 0 where
  pub head : Head
  pub there : slice_get s.heads.items r ≡ Some head
  pub tag : head.tag ≡ c
  pub within : head.first + head.size ≤ length s.fields.items
  pub fields : take head.size (drop head.first s.fields.items) ≡ xs

-- The value stands for the tree; if it is a row, it is one of the first n.
abbrev mutual
  pub Holds : Store → ℕ → Value → Tree → Type 0
  Holds s n w (Int i) = w ≡ V.Int i
  Holds s n w (Node c End) = w ≡ V.Bare c
  Holds s n w (Node c (Further v vs)) = (r : ℕ) × (xs : List Value) × (w ≡ V.Row r) × (r < n) × IsRow s r c xs
      × HoldAll s r xs (Further v vs)

  pub HoldAll : Store → ℕ → List Value → Values → Type 0
  HoldAll s n [] End = Unit {0}
  HoldAll s n [] (Further v vs) = ⊥
  HoldAll s n (w ∷ ws) End = ⊥
  HoldAll s n (w ∷ ws) (Further v vs) = Holds s n w v × HoldAll s n ws vs

abbrev pub Stands : Store → Value → Tree → Type 0
Stands s w v = Holds s (count_rows s) w v

abbrev pub StandAll : Store → List Value → Values → Type 0
StandAll s ws vs = HoldAll s (count_rows s) ws vs

-- a store with these rows and maybe others after them
pub record More (s t : Store) : Type 0 where
  pub rows : count_rows s ≤ count_rows t
  pub kept : (r c : ℕ) (xs : List Value) → IsRow s r c xs → IsRow t r c xs

-- The rows stand for these trees.
abbrev pub AreRows : Rows → Values → Type 0
AreRows rows vs = StandAll rows.store rows.values.items vs
