-- Of sound code no run reaches an instruction that can't be done, so what is said of its end is said of each.
use Rattle.std.proofs.Common.{◌≡◌, ℕ, List, refl}
use Rattle.fip_machine.specs.fip_language.Gauge.{Seen}
use Rattle.fip_machine.specs.cell_code.Plain.{plain}
use Rattle.compiler_correctness.specs.machine_semantics.Gauges.{seen}
use Rattle.compiler_correctness.specs.machine_semantics.States.{State}
use Rattle.compiler_correctness.specs.machine_semantics.Steps.{Kinds}
use Rattle.compiler_correctness.specs.machine_semantics.Runs.{Value, Trap, Out, Deep, Unsound, Run, Going, Over, begun, after}
use Rattle.fip_machine.specs.code_verify.Checked.{Checked}
use Rattle.run_loading.specs.separation.Starts.{IsStart}
use Rattle.run_loading.proofs.separation.Running.{run_sound}
use Rattle.fip_machine.specs.declared.gauge.Gauge.{Gauge}
use Rattle.fip_machine.specs.declared.machine.Ended.{Ended}
use Rattle.fip_machine.specs.Ending.{IsOver, RunsTo}
use Rattle.fip_machine.specs.GaugeView.{ReportsOver, ReportsRun}
use Rattle.machine_correctness.specs.Ended.{IsOverJust, RunsJustTo, ReportsJustOver, ReportsJustRun}

over_just : (r : Run) (e : Ended) (new : State) (given : List ℕ) → ((last : State) (left done : ℕ) → r ≡ Over Unsound last left done → ⊥) → IsOver r e new given → IsOverJust r e new given
over_just (Going s left n) e new given sound h = h
over_just (Over (Value ws) s left n) e new given sound h = h
over_just (Over (Trap kind line col) s left n) e new given sound h = h
over_just (Over Out s left n) e new given sound h = h
over_just (Over Deep s left n) e new given sound h = h
over_just (Over Unsound s left n) e new given sound h = sound s left n refl

reports_just : (r : Run) (g : Gauge) (ss : List Seen) → ((last : State) (left done : ℕ) → r ≡ Over Unsound last left done → ⊥) → ReportsOver r g ss → ReportsJustOver r g ss
reports_just (Going s left n) g ss sound h = h
reports_just (Over (Value ws) s left n) g ss sound h = h
reports_just (Over (Trap kind line col) s left n) g ss sound h = h
reports_just (Over Out s left n) g ss sound h = h
reports_just (Over Deep s left n) g ss sound h = h
reports_just (Over Unsound s left n) g ss sound h = sound s left n refl

sound_run : (v : Checked) (before waits : Kinds) (n : ℕ) (kept : List ℕ) (s : State) (calls steps : ℕ) → IsStart (plain v.code) before waits n kept s → (last : State) (left done : ℕ) → after before (plain v.code) steps (begun s calls) ≡ Over Unsound last left done → ⊥
sound_run v before waits n kept s calls steps t last left done e =
    run_sound (plain v.code) before waits n kept s calls steps last left done t
    e

pub runs_just : (v : Checked) (before waits : Kinds) (n : ℕ) (kept : List ℕ) (s : State) (calls : ℕ) (e : Ended) (new : State) (given : List ℕ) → IsStart (plain v.code) before waits n kept s → RunsTo before (plain v.code) s calls e new given → RunsJustTo before (plain v.code) s calls e new given
runs_just v before waits n kept s calls e new given t h =
    (h.0, over_just (after before (plain v.code) h.0 (begun s calls)) e new given (sound_run v before waits n kept s calls h.0 t) h.1)

pub reports_just_run : (v : Checked) (before waits : Kinds) (n : ℕ) (kept : List ℕ) (s : State) (calls : ℕ) (g : Gauge) → IsStart (plain v.code) before waits n kept s → ReportsRun before (plain v.code) s calls g → ReportsJustRun before (plain v.code) s calls g
reports_just_run v before waits n kept s calls g t h =
    (h.0, reports_just (after before (plain v.code) h.0 (begun s calls)) g (seen before (plain v.code) h.0 (begun s calls)) (sound_run v before waits n kept s calls h.0 t) h.1)
