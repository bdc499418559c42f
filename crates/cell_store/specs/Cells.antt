-- The cells of a store, by place. A place is a number; at some numbers no cell begins.
-- In flat words with Cons(1, Nil) at 0, Nil being constructor 0 and Cons constructor 1, a cell begins at 0 and none at
-- 1 and 2, where its fields lie.
use Rattle.std.specs.Prelude.{ℕ, zero, suc, ◌+◌, ◌<◌, Bool, true, false, List, [], ◌∷◌, Option, Some, None, length, map}
use Rattle.std.specs.Prelude.{nat_eq, if◌then◌else◌}
use Rattle.fip_language.specs.Store.{Cell}
pub use Rattle.cell_store.specs.StoredCells.{Cells}

-- the cell at a place
abbrev pub cell_at : Cells → ℕ → Option Cell
cell_at [] p = None
cell_at (o ∷ os) zero = o
cell_at (o ∷ os) (suc p) = cell_at os p

-- the number of a cell's fields
abbrev pub size_of : Cell → ℕ
size_of c = length c.fields

-- the size of the cell that begins here; 0 where none does, since no cell is without fields
abbrev pub size_in : Option Cell → ℕ
size_in None = 0
size_in (Some c) = size_of c

abbrev pub sizes : Cells → List ℕ
sizes cs = map size_in cs

-- how many cells there are
abbrev pub number : Cells → ℕ
number [] = 0
number (None ∷ os) = number os
number (Some c ∷ os) = suc (number os)

abbrev pub one_live : ℕ → Cell → Bool → ℕ
one_live k c true = 0
one_live k c false = if nat_eq k (size_of c) then 1 else 0

-- how many cells of size k are not released
abbrev pub count_live : ℕ → Cells → List Bool → ℕ
count_live k [] rs = 0
count_live k (o ∷ os) [] = 0
count_live k (None ∷ os) (r ∷ rs) = count_live k os rs
count_live k (Some c ∷ os) (r ∷ rs) = one_live k c r + count_live k os rs

abbrev pub one_free : ℕ → Cell → Bool → ℕ
one_free k c false = 0
one_free k c true = if nat_eq k (size_of c) then 1 else 0

-- how many cells of size k are released
abbrev pub count_free : ℕ → Cells → List Bool → ℕ
count_free k [] rs = 0
count_free k (o ∷ os) [] = 0
count_free k (None ∷ os) (r ∷ rs) = count_free k os rs
count_free k (Some c ∷ os) (r ∷ rs) = one_free k c r + count_free k os rs

-- after a place, or anywhere
abbrev pub IsAfter : Option ℕ → ℕ → Type 0
IsAfter None q = Unit {0}
IsAfter (Some p) q = p < q
