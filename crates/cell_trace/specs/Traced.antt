-- The trace of a run: the cells before its first step, what each step reported the store, and the number of steps.
-- The file of a trace has 22 bytes, 9 for each cell, 17 for each event that gives a cell its words, 13 for each that
-- releases one, and 8 for each field. A run that overwrites the cell of Cons(1, Nil) once has a file of 22 + 25 + 33 =
-- 80 bytes. A trace is too long where its file has more bytes than a limit, where there are more than 4,294,967,295
-- events, or where there are more steps than 64 bits count.
use Rattle.std.specs.Prelude.{◌≡◌, ◌⊎◌, ℕ, suc, ◌+◌, ◌*◌, ◌^◌, ◌<◌, ◌≤◌, List, [], ◌∷◌, length, map, Some, None}
use Rattle.std.specs.Prelude.{Result, Ok, Err}
use Rattle.fip_base.specs.fip_language.Store.{Cell}
use Rattle.cell_store.specs.Cells.{Cells}
use Rattle.cell_store.specs.Reported.{Reported, Overwritten, Released}
use Rattle.cell_trace.specs.declared.error.TraceError.{TraceError}
use Rattle.cell_trace.specs.declared.error.TraceError.TheVariants as F
use Rattle.cell_trace.specs.declared.trace.LoadedCell.{LoadedCell}
use Rattle.cell_trace.specs.declared.trace.Event.{Event}
use Rattle.cell_trace.specs.declared.trace.Event.TheVariants as E
use Rattle.cell_trace.specs.declared.trace.Trace.{Trace}

-- a cell and its place
pub record Standing : Type 0 where
  pub place : ℕ
  pub cell : Cell

-- what a step reported the store; steps are numbered from 1
pub record Noted : Type 0 where
  pub step : ℕ
  pub reported : Reported

-- the cells of a store, by place
abbrev pub standing_from : ℕ → Cells → List Standing
standing_from p [] = []
standing_from p (None ∷ os) = standing_from (suc p) os
standing_from p (Some c ∷ os) = record { place = p; cell = c } ∷ standing_from (suc p) os

-- the cells and events of a trace, without where their lists lie
abbrev pub plain_cell : LoadedCell → Standing
plain_cell c = record { place = c.place; cell = record { tag = c.tag; fields = c.fields.items } }

abbrev pub plain_event : Event → Noted
plain_event (E.Put step place tag fields) = record { step = step; reported = Overwritten place tag fields.items }
plain_event (E.Release step place) = record { step = step; reported = Released place }

-- ---- bytes of a file

abbrev pub cells_bytes : List Standing → ℕ
cells_bytes [] = 0
cells_bytes (c ∷ cs) = (length c.cell.fields * 8 + 9) + cells_bytes cs

abbrev pub reported_bytes : Reported → ℕ
reported_bytes (Overwritten place tag fields) = length fields * 8 + 17
reported_bytes (Released place) = 13

abbrev pub events_bytes : List Noted → ℕ
events_bytes [] = 0
events_bytes (e ∷ es) = reported_bytes e.reported + events_bytes es

abbrev pub file_bytes : List Standing → List Noted → ℕ
file_bytes cells events = 22 + (cells_bytes cells + events_bytes events)

abbrev pub IsTooLong : List Standing → List Noted → ℕ → ℕ → Type 0
IsTooLong cells events steps limit =
    (limit < file_bytes cells events) ⊎ ((4294967295 < length events) ⊎ (2 ^ 64 ≤ steps))

-- ---- what a recorder answers

-- The trace reports just these cells, events and steps, and it isn't too long.
pub record Reports (cells : List Standing) (events : List Noted) (steps limit : ℕ) (t : Trace) : Type 0 where
  pub cells_are : map plain_cell t.cells.items ≡ cells
  pub events_are : map plain_event t.events.items ≡ events
  pub steps_are : t.steps ≡ steps
  pub short : file_bytes cells events ≤ limit
  pub few : length events ≤ 4294967295
  pub counted : steps < 2 ^ 64

-- The trace, or that it is too long; nothing is said where no memory was left.
abbrev pub IsTraced : List Standing → List Noted → ℕ → ℕ → Result Trace TraceError → Type 0
IsTraced cells events steps limit (Ok t) = Reports cells events steps limit t
IsTraced cells events steps limit (Err F.TooLong) = IsTooLong cells events steps limit
IsTraced cells events steps limit (Err F.NoMemory) = Unit {0}
