-- The cells of a store by place, which of them are released, and what happens to them in a run.
-- The cells are a finite map: at each number a cell begins, or none. So it is the same whether a cell takes one place
-- of a list of cells, or a header and its fields lie in a list of words: with Cons(2, Nil) first and Cons(1, ..) second
-- the cells are at 0 and 1, or at 0 and 3.
-- In a run a cell gets another constructor and other words, as many as it has fields; or it is released, once. No cell
-- is made, and none gets another place or size.
use Rattle.std.specs.Prelude.{◌≡◌, ℕ, zero, suc, ◌+◌, ◌<◌, ◌≤◌, Bool, true, false, List, [], ◌∷◌, Option, Some, None}
use Rattle.std.specs.Prelude.{length, map, replicate, nat_eq, slice_get, slice_set, option_and_then, if◌then◌else◌}
use Rattle.cell_code.specs.fip_language.Every.{Every}
use Rattle.cell_code.specs.fip_language.Store.{Cell}
use Rattle.machine_semantics.specs.Limits.{most_fields}

-- what begins at each number, and at which of them a cell is released
pub record Store : Type 0 where
  pub cells : List (Option Cell)
  pub released : List Bool

abbrev pub cell_in : List (Option Cell) → ℕ → Option Cell
cell_in [] p = None
cell_in (o ∷ os) zero = o
cell_in (o ∷ os) (suc p) = cell_in os p

-- the cell at place p
abbrev pub cell_at : Store → ℕ → Option Cell
cell_at s p = cell_in s.cells p

abbrev pub size_of : Cell → ℕ
size_of c = length c.fields

-- the size of the cell that begins here; 0 where none does, since no cell is without fields
abbrev pub size_in : Option Cell → ℕ
size_in None = 0
size_in (Some c) = size_of c

-- the sizes of all cells by place
abbrev pub sizes : Store → List ℕ
sizes s = map size_in s.cells

abbrev pub one_if_some : Option Cell → ℕ
one_if_some None = 0
one_if_some (Some c) = 1

-- 1 where a cell begins
abbrev pub there : Store → ℕ → ℕ
there s p = one_if_some (cell_at s p)

abbrev pub one_if_true : Option Bool → ℕ
one_if_true None = 0
one_if_true (Some true) = 1
one_if_true (Some false) = 0

-- 1 where a cell is released
abbrev pub released_at : Store → ℕ → ℕ
released_at s p = one_if_true (slice_get s.released p)

abbrev pub released_from : ℕ → List Bool → List ℕ
released_from p [] = []
released_from p (true ∷ rs) = p ∷ released_from (suc p) rs
released_from p (false ∷ rs) = released_from (suc p) rs

-- the places of the released cells, rising
abbrev pub released_places : Store → List ℕ
released_places s = released_from 0 s.released

abbrev pub one_held : ℕ → Option Cell → Bool → ℕ
one_held k None r = 0
one_held k (Some c) true = 0
one_held k (Some c) false = if nat_eq k (size_of c) then 1 else 0

abbrev pub held_in : ℕ → List (Option Cell) → List Bool → ℕ
held_in k [] rs = 0
held_in k (o ∷ os) [] = 0
held_in k (o ∷ os) (r ∷ rs) = one_held k o r + held_in k os rs

-- how many cells of size k are not released
abbrev pub count_held : ℕ → Store → ℕ
count_held k s = held_in k s.cells s.released

-- A cell has 1 to 16 fields.
abbrev pub IsSized : Option Cell → Type 0
IsSized None = Unit {0}
IsSized (Some c) = (0 < size_of c) × (size_of c ≤ most_fields)

-- A store: only cells are released.
pub record IsStore (s : Store) : Type 0 where
  pub sized : Every IsSized s.cells
  pub wide : length s.released ≡ length s.cells
  pub of_cells : (p : ℕ) → released_at s p ≤ there s p

-- the cell of a credit of size k that the entry is given, before the first step
abbrev pub credit_cell : ℕ → Cell
credit_cell k = record { tag = 0; fields = replicate k 0 }

-- what happens to a cell
pub data Change : Type 0 where
  -- the cell at a place gets a constructor and words
  Write : (place tag : ℕ) (fields : List ℕ) → Change
  -- the cell at a place is released
  Release : (place : ℕ) → Change

abbrev pub written : Store → ℕ → Cell → Option Cell → Option Store
written s p new None = None
written s p new (Some old) =
    if nat_eq (size_of old) (size_of new) then Some (record s { cells = slice_set s.cells p (Some new) }) else None

abbrev pub given_up : Store → ℕ → Option Cell → Option Bool → Option Store
given_up s p None r = None
given_up s p (Some c) None = None
given_up s p (Some c) (Some true) = None
given_up s p (Some c) (Some false) = Some (record s { released = slice_set s.released p true })

-- the store after it; None where it can't happen
abbrev pub changed : Change → Store → Option Store
changed (Write p c ws) s = written s p (record { tag = c; fields = ws }) (cell_at s p)
changed (Release p) s = given_up s p (cell_at s p) (slice_get s.released p)

-- the store after all of them, one after another
abbrev pub changed_by : List Change → Store → Option Store
changed_by [] s = Some s
changed_by (c ∷ cs) s = option_and_then (λ t. changed_by cs t) (changed c s)
