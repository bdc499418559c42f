-- It serves the proof of what `derive` gives: tables of what was found.
use Rattle.std.specs.Prelude.{ℕ, zero, suc, ◌+◌, ◌<◌, ◌≤◌, Bool, true, false, not, ◌&&◌, ◌||◌, List, [], ◌∷◌, ◌++◌}
use Rattle.std.specs.Prelude.{map, set, get_or}
use Rattle.std.specs.Prelude.{Option, Some, None, slice_get, nat_lt, if◌then◌else◌, length}
use Rattle.std.specs.declared.vec.Vec.{Vec}
use Rattle.std.specs.declared.alloc.Global.{Global}
use Rattle.derivation_walk.specs.declared.found.Bound.{Bound}
use Rattle.derivation_walk.specs.declared.found.Occurrence.{Occurrence}

-- For each binder the number of its variable, where variables are numbered from n on; a later one hides an earlier one.
abbrev pub numbers_from : List ℕ → ℕ → List Bound → List ℕ
numbers_from ns n [] = ns
numbers_from ns n (v ∷ vs) = numbers_from (set ns v.binder n) (n + 1) vs

abbrev pub zeros : ℕ → List ℕ
zeros zero = []
zeros (suc n) = 0 ∷ zeros n

abbrev pub numbers_of : List Bound → List ℕ
numbers_of vs = numbers_from (zeros (length vs)) 0 vs

-- ---- rows, one for each binder

abbrev pub row : Vec ℕ Global → List ℕ
row v = v.items

abbrev pub rows : List (Vec ℕ Global) → List (List ℕ)
rows = map row

abbrev pub add_at : ℕ → ℕ → List (List ℕ) → List (List ℕ)
add_at x i [] = []
add_at zero i (r ∷ rs) = (r ++ i ∷ []) ∷ rs
add_at (suc x) i (r ∷ rs) = r ∷ add_at x i rs

abbrev pub empty_rows : ℕ → List (List ℕ)
empty_rows zero = []
empty_rows (suc n) = [] ∷ empty_rows n

-- whether it is taken into the rows of all occurrences, or of those that use something up
abbrev pub is_taken_up : Bool → Occurrence → Bool
is_taken_up all o = all || not o.is_lent

abbrev pub add_if : Bool → Occurrence → List (List ℕ) → List (List ℕ)
add_if true o rs = add_at o.binder o.expression rs
add_if false o rs = rs

abbrev pub rows_from : Bool → List (List ℕ) → List Occurrence → List (List ℕ)
rows_from all rs [] = rs
rows_from all rs (o ∷ os) = rows_from all (add_if (is_taken_up all o) o rs) os

-- whether one of the places lies from first to before end
abbrev pub has_within : ℕ → ℕ → List ℕ → Bool
has_within first end [] = false
has_within first end (x ∷ xs) = (not (nat_lt x first) && nat_lt x end) || has_within first end xs

abbrev pub row_at : List (List ℕ) → ℕ → List ℕ
row_at rs x = get_or rs x []

-- numbers that rise, the same ones too
abbrev pub IsRising : List ℕ → Type 0
IsRising xs = (i j : ℕ) → i ≤ j → j < length xs → get_or xs i 0 ≤ get_or xs j 0
