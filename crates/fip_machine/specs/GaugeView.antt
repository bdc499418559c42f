-- What a gauge reports of a run: over all its states, what the language's own definition of a gauge says of them.
-- Of rev of Cons(1, Cons(2, Nil)) and Nil it reports 2 as the lowest and the highest number of held cells of size 2, no
-- frame, and 9 words.
use Rattle.std.specs.Prelude.{◌≡◌, ℕ, ◌-◌, ◌≤◌, Bool, true, false, List, min, slice_index_or}
use Rattle.fip_language.specs.declared.limits.TheConstants.{MOST_FIELDS}
use Rattle.fip_language.specs.Gauge.{Seen, lowest, highest, highest_frames, highest_words}
use Rattle.cell_code.specs.Plain.{PlainCode}
use Rattle.machine_cells.specs.machine_semantics.Gauges.{seen}
use Rattle.machine_cells.specs.machine_semantics.States.{State}
use Rattle.machine_cells.specs.machine_semantics.Steps.{Kinds}
use Rattle.machine_cells.specs.machine_semantics.Runs.{Value, Trap, Out, Deep, Unsound, Run, Going, Over, begun, after}
use Rattle.fip_machine.specs.declared.gauge.Gauge.{Gauge}

-- the lowest number so far, with one more; the first is it
abbrev pub lowered : Bool → ℕ → ℕ → ℕ
lowered true old new = min old new
lowered false old new = new

-- It has seen no state.
pub record IsUnseen (g : Gauge) : Type 0 where
  pub seen : g.seen ≡ false
  pub highest : (k : ℕ) → slice_index_or g.highest k 0 ≡ 0
  pub frames : g.frames ≡ 0
  pub words : g.words ≡ 0

-- It reports of these states. A size has its numbers one place before it.
pub record Reports (g : Gauge) (ss : List Seen) : Type 0 where
  pub lowest : (k : ℕ) → 1 ≤ k → k ≤ MOST_FIELDS → slice_index_or g.lowest (k - 1) 0 ≡ lowest k ss
  pub highest : (k : ℕ) → 1 ≤ k → k ≤ MOST_FIELDS → slice_index_or g.highest (k - 1) 0 ≡ highest k ss
  pub frames : g.frames ≡ highest_frames ss
  pub words : g.words ≡ highest_words ss

-- The run is over, and it reports of these states. Where an instruction can't be done nothing is said.
abbrev pub ReportsOver : Run → Gauge → List Seen → Type 0
ReportsOver (Going s left n) g ss = ⊥
ReportsOver (Over (Value ws) s left n) g ss = Reports g ss
ReportsOver (Over (Trap kind line col) s left n) g ss = Reports g ss
ReportsOver (Over Out s left n) g ss = Reports g ss
ReportsOver (Over Deep s left n) g ss = Reports g ss
ReportsOver (Over Unsound s left n) g ss = Unit {0}

-- The run from the first state, with so many calls, reaches an end, and the gauge reports of all its states.
abbrev pub ReportsRun : Kinds → PlainCode → State → ℕ → Gauge → Type 0
ReportsRun kinds code first calls g =
    (n : ℕ) × ReportsOver (after kinds code n (begun first calls)) g (seen kinds code n (begun first calls))
