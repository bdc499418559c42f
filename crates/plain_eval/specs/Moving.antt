-- Which rows are reached, and where they go. It serves the proof that what is reached stands for the same trees where
-- the other rows are dropped.
use Rattle.std.specs.Prelude.{◌≡◌, ℕ, suc, ◌<◌, ◌≤◌, Bool, true, List, Option, Some, None, length, slice_get}
use Rattle.fip_trees.specs.fip_language.Values.{Value as Tree}
use Rattle.plain_rows.specs.declared.store.Value.{Value}
use Rattle.plain_rows.specs.declared.store.Value.TheVariants as V
use Rattle.plain_rows.specs.declared.store.Store.{Store}
use Rattle.plain_rows.specs.Rows.{IsRow, Holds, Stands}

-- row r is marked
abbrev pub Marked : List Bool → ℕ → Type 0
Marked m r = slice_get m r ≡ Some true

-- the rows below a limit that these values name are marked
abbrev pub MarkedBelow : ℕ → List Bool → List Value → Type 0
MarkedBelow limit m ws = (i r : ℕ) → slice_get ws i ≡ Some (V.Row r) → r < limit → r < length m → Marked m r

-- of each marked row from k on, the rows before it that it names are marked
abbrev pub ClosedFrom : ℕ → Store → List Bool → Type 0
ClosedFrom k s m = (r c : ℕ) (xs : List Value) → k ≤ r → Marked m r → IsRow s r c xs → MarkedBelow r m xs

abbrev pub or_same : Option ℕ → Value → Value
or_same None w = w
or_same (Some p) w = V.Row p

-- the value that names the row's new place
abbrev pub placed : List ℕ → Value → Value
placed places (V.Int i) = V.Int i
placed places (V.Bare c) = V.Bare c
placed places (V.Row r) = or_same (slice_get places r) (V.Row r)
placed places V.Unbound = V.Unbound

-- each marked row below k stands for its tree at its new place
abbrev pub MovedBelow : ℕ → Store → List Bool → Store → List ℕ → Type 0
MovedBelow k s m t places = (r : ℕ) (v : Tree) → r < k → Marked m r → Holds s (suc r) (V.Row r) v →
    (p : ℕ) × (slice_get places r ≡ Some p) × Stands t (V.Row p) v
