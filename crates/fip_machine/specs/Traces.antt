-- The trace of a run that gives a value: the cells before its first step, what its steps did to them, and the number of
-- its steps. Nothing is said of a run in which an instruction can't be done: of sound code this never happens.
-- rev of one item and none writes one cell once, in the third of its seven steps: so its trace has one cell, one event
-- of step 3, and 7 steps.
use Rattle.std.specs.Prelude.{ℕ, List, map}
use Rattle.cell_trace.specs.declared.trace.Trace.{Trace}
use Rattle.cell_trace.specs.Traced.{Noted, Reports, IsTooLong, standing_from}
use Rattle.cell_code.specs.Plain.{PlainCode}
use Rattle.machine_cells.specs.machine_semantics.States.{State}
use Rattle.machine_cells.specs.machine_semantics.Steps.{Kinds}
use Rattle.machine_cells.specs.machine_semantics.Runs.{Value, Trap, Out, Deep, Unsound, Run, Going, Over, begun, after}
use Rattle.machine_cells.specs.machine_semantics.Traces.{Event, events}
use Rattle.machine_cells.specs.Telling.{as_reported}

-- an event, as a store is reported of its change
abbrev pub noted : Event → Noted
noted e = record { step = e.step; reported = as_reported e.change }

-- the events of a run over at most so many steps
abbrev pub notes : Kinds → PlainCode → State → ℕ → ℕ → List Noted
notes kinds code first calls n = map noted (events kinds code n (begun first calls))

-- The run is over with a value, and this holds of the number of its steps.
abbrev pub AtValue : Run → (ℕ → Type 0) → Type 0
AtValue (Going s left steps) P = ⊥
AtValue (Over (Value words) s left steps) P = P steps
AtValue (Over (Trap kind line col) s left steps) P = ⊥
AtValue (Over Out s left steps) P = ⊥
AtValue (Over Deep s left steps) P = ⊥
AtValue (Over Unsound s left steps) P = Unit {0}

-- The run gives a value, and this is its trace, which isn't too long.
abbrev pub HasTrace : Kinds → PlainCode → State → (calls limit : ℕ) → Trace → Type 0
HasTrace kinds code first calls limit t = (n : ℕ) × AtValue (after kinds code n (begun first calls))
    (λ steps. Reports (standing_from 0 first.store.cells) (notes kinds code first calls steps) steps limit t)

-- The run gives a value, and its trace is too long.
abbrev pub HasLongTrace : Kinds → PlainCode → State → (calls limit : ℕ) → Type 0
HasLongTrace kinds code first calls limit = (n : ℕ) × AtValue (after kinds code n (begun first calls))
    (λ steps. IsTooLong (standing_from 0 first.store.cells) (notes kinds code first calls steps) steps limit)
