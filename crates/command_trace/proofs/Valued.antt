-- A run that is over with a value, as a run of the code to its end.
use Rattle.std.proofs.Common.{◌≡◌, ℕ, List, [], refl}
use Rattle.fip_language.specs.Values.{Values}
use Rattle.code_verify.specs.cell_code.Plain.{PlainFunction, plain}
use Rattle.trace_files.specs.machine_semantics.Runs.{Value, Trap, Out, Deep, Unsound, Run, Going, Over, begun, after}
use Rattle.trace_files.specs.machine_semantics.States.{State}
use Rattle.trace_files.specs.machine_semantics.Steps.{Kinds}
use Rattle.command_run.specs.separation.Codes.{AreKinds}
use Rattle.fip_machine.specs.code_verify.Checked.{Checked}
use Rattle.fip_machine.specs.Traces.{AtValue}
use Rattle.command_run.specs.machine_correctness.Starts.{IsSoundCode, Begins}
use Rattle.command_run.proofs.machine_correctness.Starting.{starts, free_is}
use Rattle.command_run.specs.CodeRun as D
use Rattle.command_run.proofs.separation.Running.{run_sound}

pub record Valued (v : Checked) (n : ℕ) (vs : Values) (calls frames : ℕ) (before : Kinds) (s : State) (Q : ℕ → Type 0) : Type 0 where
  pub run : D.Run (plain v.code) n vs calls frames
  pub kinds : run.before ≡ before
  pub begins : run.first ≡ s
  pub words : List ℕ
  pub gives : run.end ≡ Value words
  pub holds : Q run.steps

pub valued : (v : Checked) (before waits : Kinds) (n : ℕ) (f : PlainFunction) (vs : Values) (frames : ℕ) (s : State) (calls : ℕ) (Q : ℕ → Type 0) → IsSoundCode v.code → AreKinds (plain v.code) before waits → Begins v.code n f vs frames s → (k : ℕ) → AtValue (after before (plain v.code) k (begun s calls)) Q → Valued v n vs calls frames before s Q
valued v before waits n f vs frames s calls Q sound kinds b k h = by (after before (plain v.code) k (begun s calls)) refl h
  where
    by : (m : Run) → after before (plain v.code) k (begun s calls) ≡ m → AtValue m Q → Valued v n vs calls frames before s Q
    by (Going z l j) e q = absurd q
    by (Over (Value ws) z l j) e q = record {
      run = record {
        before = before;
        waits = waits;
        first = s;
        starts = (starts v.code before waits n f vs frames s sound kinds b).0;
        arguments = (starts v.code before waits n f vs frames s sound kinds b).1;
        free = free_is v.code n f vs frames s b;
        end = Value ws;
        last = z;
        left = l;
        steps = j;
        ends = record { enough = k; is = e };
      };
      kinds = refl;
      begins = refl;
      words = ws;
      gives = refl;
      holds = q;
    }
    by (Over (Trap kind line col) z l j) e q = absurd q
    by (Over Out z l j) e q = absurd q
    by (Over Deep z l j) e q = absurd q
    by (Over Unsound z l j) e q = absurd (run_sound (plain v.code) before waits n [] s calls k z l j (starts v.code before waits n f vs frames s sound kinds b).0 (e))
