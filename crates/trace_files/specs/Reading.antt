-- It serves private contracts: what a reader of bytes has left, and that a function gave what the definitions of traces
-- read.
use Rattle.std.specs.Prelude.{◌≡◌, ◌≤◌, ℕ, suc, Bool, true, false, List, [], ◌∷◌, map, Some, slice_get, Result, Ok, Err}
use Rattle.std.specs.declared.vec.Vec.{Vec}
use Rattle.std.specs.declared.alloc.Global.{Global}
use Rattle.run_loading.specs.machine_semantics.Traces as D
use Rattle.cell_trace.specs.declared.error.ReadTraceError.{ReadTraceError}
use Rattle.cell_trace.specs.declared.error.ReadTraceError.TheVariants as E
use Rattle.cell_trace.specs.declared.trace.LoadedCell.{LoadedCell}
use Rattle.cell_trace.specs.declared.trace.Event.{Event}
use Rattle.run_loading.specs.TraceReading.{Read, Got, Bad}
use Rattle.run_loading.specs.TraceText.{Loaded, Trace}
use Rattle.trace_files.specs.Plain.{plain_cell, plain_event}

-- the bytes that are left, and the offset of the first of them
pub record Spot : Type 0 where
  pub at : ℕ
  pub rest : List ℕ

-- What a function returned, seen by view, and what it has left, are what reading gives.
abbrev pub Reads : {X Y : Type 0} → (X → Y) → Result X ReadTraceError → Spot → Read Y → Type 0
Reads view (Ok x) s r = r ≡ Got (view x) s.at s.rest
Reads view (Err E.NoMemory) s r = Unit {0}
Reads view (Err (E.BadTrace at)) s r = r ≡ Bad at

-- The same of what is read to the end.
abbrev pub ReadsAll : {X Y : Type 0} → (X → Y) → Result X ReadTraceError → Read Y → Type 0
ReadsAll view (Ok x) r = (end : ℕ) × (r ≡ Got (view x) end [])
ReadsAll view (Err E.NoMemory) r = Unit {0}
ReadsAll view (Err (E.BadTrace at)) r = r ≡ Bad at

abbrev pub same : {X : Type 0} → X → X
same x = x

abbrev pub nothing : {X : Type 0} → X → Unit {0}
nothing x = tt

-- any byte
abbrev pub read_byte : ℕ → List ℕ → Read ℕ
read_byte at [] = Bad at
read_byte at (b ∷ bytes) = Got b (suc at) bytes

abbrev pub cells_of : Vec LoadedCell Global → List Loaded
cells_of v = map plain_cell v.items

abbrev pub events_of : Vec Event Global → List D.Event
events_of v = map plain_event v.items

-- Cells whose places rise, from this one on.
abbrev pub AreRising : ℕ → List Loaded → Type 0
AreRising least [] = Unit {0}
AreRising least (c ∷ cs) = (least ≤ c.place) × AreRising (suc c.place) cs

-- the cells of which it isn't marked that they are released
abbrev pub left : List Loaded → List Bool → List Loaded
left [] rs = []
left (c ∷ cs) [] = []
left (c ∷ cs) (true ∷ rs) = left cs rs
left (c ∷ cs) (false ∷ rs) = c ∷ left cs rs

-- Cell k is at this place, and isn't released.
pub record IsLive (cs : List Loaded) (rs : List Bool) (place k : ℕ) : Type 0 where
  pub cell : Loaded
  pub there : slice_get cs k ≡ Some cell
  pub at : cell.place ≡ place
  pub held : slice_get rs k ≡ Some false

-- the trace of these cells and events with so many steps
abbrev pub trace_with : List Loaded → List D.Event → ℕ → Trace
trace_with cs es n = record { cells = cs; events = es; steps = n }
