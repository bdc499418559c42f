-- What a recorder holds at a moment of a run: what there was of the run until then, or that its trace is too long.
use Rattle.std.specs.Prelude.{◌≡◌, ℕ, ◌^◌, ◌<◌, ◌≤◌, List, ◌++◌, length, map, Option, Some, None}
use Rattle.cell_store.specs.Made.{Stored}
use Rattle.cell_store.specs.Reported.{Reported}
use Rattle.cell_trace.specs.declared.error.TraceError.{TraceError}
use Rattle.cell_trace.specs.declared.error.TraceError.TheVariants as F
use Rattle.cell_trace.specs.declared.tape.Tape.{Tape}
use Rattle.cell_trace.specs.Traced.{Standing, Noted, plain_cell, plain_event, file_bytes, IsTooLong}

-- what callers see of a recorder: its store, and what it keeps
pub record Recorded : Type 0 where
  pub store : Stored
  pub tape : Tape

-- All is kept.
pub record Holds (cells : List Standing) (events : List Noted) (limit : ℕ) (t : Tape) : Type 0 where
  pub cells_are : map plain_cell t.loaded.items ≡ cells
  pub events_are : map plain_event t.events.items ≡ events
  pub bytes : t.bytes ≡ file_bytes cells events
  pub short : t.bytes ≤ limit
  pub few : length t.events.items ≤ 4294967295

-- All is kept where the steps can be counted, or the trace is lost: it is too long, or no memory was left.
abbrev pub HoldsOr : Option TraceError → List Standing → List Noted → ℕ → ℕ → Tape → Type 0
HoldsOr None cells events steps limit t = steps < 2 ^ 64 → Holds cells events limit t
HoldsOr (Some F.TooLong) cells events steps limit t = IsTooLong cells events steps limit
HoldsOr (Some F.NoMemory) cells events steps limit t = Unit {0}

pub record IsTape (cells : List Standing) (events : List Noted) (steps limit : ℕ) (t : Tape) : Type 0 where
  pub limit_is : t.limit ≡ limit
  pub counts : steps < 2 ^ 64 → t.steps ≡ Some steps
  pub over : 2 ^ 64 ≤ steps → t.steps ≡ None
  pub holds : HoldsOr t.lost cells events steps limit t

-- What is kept grew by what this step reported.
abbrev pub WasReported : Tape → List Reported → Tape → Type 0
WasReported first ts now = (cells : List Standing) (events : List Noted) (steps limit : ℕ) →
    IsTape cells events steps limit first →
    IsTape cells (events ++ map (λ t. record { step = steps; reported = t }) ts) steps limit now

-- It is lost.
pub record IsLost (old : Tape) (error : TraceError) (new : Tape) : Type 0 where
  pub limit_is : new.limit ≡ old.limit
  pub steps_are : new.steps ≡ old.steps
  pub lost : new.lost ≡ Some error
