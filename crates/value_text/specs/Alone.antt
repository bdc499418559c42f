-- What the reading and the building of one value give, in the machine's words. No public clause speaks of it.
use Rattle.std.specs.Prelude.{◌≡◌, ℕ, ◌≤◌, List, [], drop, Result, Ok, Err}
use Rattle.std.specs.declared.vec.Vec.{Vec}
use Rattle.std.specs.declared.alloc.Global.{Global}
use Rattle.fip_language.specs.Prefix.{Stopped}
use Rattle.fip_language.specs.Values.{Value, End, More}
use Rattle.fip_language.specs.Table.{Table}
use Rattle.cell_store.specs.Made.{Loading}
use Rattle.value_text.specs.Building.{IsBuilt}
use Rattle.value_text.specs.Loaded.{wanted}
use Rattle.value_text.specs.Machine.{Alone, Want}
use Rattle.value_text.specs.Scan.{runs}
use Rattle.value_text.specs.Single.{BeginsWith, IsValueAt, AreCellsOf, needed_by}
use Rattle.value_text.specs.declared.build.Stopped as B
use Rattle.value_text.specs.declared.build.Stopped.TheVariants as S
use Rattle.value_text.specs.declared.counts.Counts.{Counts}
use Rattle.value_text.specs.declared.read.Refused.{Refused}
use Rattle.value_text.specs.declared.read.Refused.TheVariants.{BadValue, NoMemory}
use Rattle.value_text.specs.declared.single.MakeError.{MakeError}
use Rattle.value_text.specs.declared.single.MakeError.TheVariants as M

-- However many characters stand after the value, the machine stops at this place.
abbrev pub StopsAt : Table → ℕ → List ℕ → ℕ → ℕ → Type 0
StopsAt tb k bytes at j = (n : ℕ) → runs tb bytes (Want k (Alone n)) at ≡ Stopped j

-- what reading gives: the place after the value, and its cells by size
abbrev pub AloneRead : Table → ℕ → List ℕ → ℕ → Result (ℕ × Counts) Refused → Type 0
AloneRead tb k bytes at (Ok r) = (v : Value) × IsValueAt tb k bytes at v r.0 × AreCellsOf r.1 v
AloneRead tb k bytes at (Err (BadValue j)) = StopsAt tb k bytes at j
AloneRead tb k bytes at (Err NoMemory) = Unit {0}

-- what building gives: the words of the value, of which there is one
abbrev pub AloneBuilt : Table → ℕ → List ℕ → ℕ → Loading → Loading → Result (Vec ℕ Global) B.Stopped → Type 0
AloneBuilt tb k bytes at first now (Ok ws) = (v : Value) × BeginsWith tb k (drop at bytes) v
    × IsBuilt (wanted [] (More v End)) first now (More v End) ws.items
AloneBuilt tb k bytes at first now (Err (S.BadValue j)) = StopsAt tb k bytes at j
AloneBuilt tb k bytes at first now (Err S.Full) = (v : Value) → BeginsWith tb k (drop at bytes) v →
    needed_by first v ≤ first.left → ⊥
AloneBuilt tb k bytes at first now (Err S.NoMemory) = Unit {0}

-- why nothing was made, where nothing was built
abbrev pub error_by : B.Stopped → MakeError
error_by (S.BadValue j) = M.BadValue j
error_by S.Full = M.Full
error_by S.NoMemory = M.NoMemory
