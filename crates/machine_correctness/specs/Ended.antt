-- How a run came out, against the run that the definition says, where an instruction that can't be done is no way to
-- come out.
-- rev of two items and none, with 2 calls, ended in Out: the definition's run is over after 8 steps, out of calls.
use Rattle.std.specs.Prelude.{ℕ, List}
use Rattle.fip_machine.specs.cell_code.Plain.{PlainCode}
use Rattle.compiler_correctness.specs.machine_semantics.Gauges.{seen}
use Rattle.compiler_correctness.specs.machine_semantics.States.{State}
use Rattle.compiler_correctness.specs.machine_semantics.Steps.{Kinds}
use Rattle.compiler_correctness.specs.machine_semantics.Runs.{End, Value, Trap, Out, Deep, Unsound, Run, Going, Over, begun, after}
use Rattle.fip_machine.specs.fip_language.Gauge.{Seen}
use Rattle.fip_machine.specs.declared.gauge.Gauge.{Gauge}
use Rattle.fip_machine.specs.declared.machine.Ended.{Ended}
use Rattle.fip_machine.specs.Ending.{EndsAs}
use Rattle.fip_machine.specs.GaugeView.{Reports}

-- The end in a last state is what was answered, with the state and the words that are left then.
abbrev pub EndsJustAs : End → State → Ended → State → List ℕ → Type 0
EndsJustAs (Value ws) last e new given = EndsAs (Value ws) last e new given
EndsJustAs (Trap kind line col) last e new given = EndsAs (Trap kind line col) last e new given
EndsJustAs Out last e new given = EndsAs Out last e new given
EndsJustAs Deep last e new given = EndsAs Deep last e new given
EndsJustAs Unsound last e new given = ⊥

abbrev pub IsOverJust : Run → Ended → State → List ℕ → Type 0
IsOverJust (Going s left n) e new given = ⊥
IsOverJust (Over end s left n) e new given = EndsJustAs end s e new given

-- The run from the first state, with so many calls, reaches this end.
abbrev pub RunsJustTo : Kinds → PlainCode → State → ℕ → Ended → State → List ℕ → Type 0
RunsJustTo kinds code first calls e new given =
    (n : ℕ) × IsOverJust (after kinds code n (begun first calls)) e new given

-- The run is over, and the gauge reports of these states.
abbrev pub ReportsJustOver : Run → Gauge → List Seen → Type 0
ReportsJustOver (Going s left n) g ss = ⊥
ReportsJustOver (Over (Value ws) s left n) g ss = Reports g ss
ReportsJustOver (Over (Trap kind line col) s left n) g ss = Reports g ss
ReportsJustOver (Over Out s left n) g ss = Reports g ss
ReportsJustOver (Over Deep s left n) g ss = Reports g ss
ReportsJustOver (Over Unsound s left n) g ss = ⊥

-- The run from the first state, with so many calls, reaches an end, and the gauge reports of all its states.
abbrev pub ReportsJustRun : Kinds → PlainCode → State → ℕ → Gauge → Type 0
ReportsJustRun kinds code first calls g =
    (n : ℕ) × ReportsJustOver (after kinds code n (begun first calls)) g (seen kinds code n (begun first calls))
