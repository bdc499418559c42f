-- Cells in one list of words: a header, then the fields. The header is 64 * tag + 2 * size, and 1 more where the cell
-- is released.
use Rattle.std.specs.Prelude.{◌≡◌, ℕ, zero, suc, ◌+◌, ◌*◌, ◌/◌, ◌%◌, ◌<◌, ◌≤◌, ◌^◌, Bool, false, List, [], ◌∷◌, Some}
use Rattle.std.specs.Prelude.{None, length, take, nat_eq, slice_index_or}
use Rattle.fip_language.specs.declared.limits.TheConstants.{MOST_FIELDS}
use Rattle.cell_store.specs.Cells.{Cells, count_live}

abbrev pub size : ℕ → ℕ
size h = (h / 2) % 32

abbrev pub header : ℕ → ℕ → ℕ
header tag k = 64 * tag + 2 * k

-- the cells of words of which the first n belong to the cell before
abbrev pub parse : ℕ → List ℕ → Cells
parse n [] = []
parse zero (h ∷ ws) = Some (record { tag = h / 64; fields = take (size h) ws }) ∷ parse (size h) ws
parse (suc n) (w ∷ ws) = None ∷ parse n ws

abbrev pub flags : ℕ → List ℕ → List Bool
flags n [] = []
flags zero (h ∷ ws) = nat_eq (h % 2) 1 ∷ flags (size h) ws
flags (suc n) (w ∷ ws) = false ∷ flags n ws

-- headers and fields follow one another to the end
abbrev pub Laid : ℕ → List ℕ → Type 0
Laid zero [] = Unit {0}
Laid (suc n) [] = ⊥
Laid zero (h ∷ ws) = (0 < size h) × (size h ≤ MOST_FIELDS) × (h < 2 ^ 38) × (size h ≤ length ws) × Laid (size h) ws
Laid (suc n) (w ∷ ws) = Laid n ws

-- words with others from a place on
abbrev pub over : List ℕ → List ℕ → List ℕ
over ws [] = ws
over [] (f ∷ fs) = []
over (w ∷ ws) (f ∷ fs) = f ∷ over ws fs

abbrev pub over_at : List ℕ → ℕ → List ℕ → List ℕ
over_at ws zero fs = over ws fs
over_at [] (suc p) fs = []
over_at (w ∷ ws) (suc p) fs = w ∷ over_at ws p fs

-- the numbers of live cells by size
pub record IsCounted (cells : Cells) (released : List Bool) (counts : List ℕ) : Type 0 where
  pub wide : length counts ≡ 17
  pub exact : (k : ℕ) → k ≤ MOST_FIELDS → slice_index_or counts k 0 ≡ count_live k cells released
