-- What a machine's run ended in: a run of the code to its end, and the gauge reports of all its states.
-- Idea: a run reaches one end, so the end of which the gauge reports is the end that the machine reported.
use Rattle.std.proofs.Common.{◌≡◌, ◌∙◌, ℕ, List, [], Option, Some, None, refl, sym, ap, subst, arith}
use Rattle.fip_language.specs.Gauge.{Seen}
use Rattle.fip_language.specs.Meaning.{Answer, Gives, Trap, Out, Deep, Stuck}
use Rattle.fip_language.specs.Table.{Table}
use Rattle.fip_language.specs.Values.{Values}
use Rattle.fip_base.specs.declared.plain.Stack.{Stack}
use Rattle.code_verify.specs.cell_code.Plain.{PlainFunction, PlainCode, plain, results}
use Rattle.command_eval.specs.machine_correctness.machine_semantics.Gauges.{seen}
use Rattle.command_eval.specs.machine_correctness.machine_semantics.Runs as C
use Rattle.command_eval.specs.machine_correctness.machine_semantics.Runs.{End, Run, Going, Over, Ends, begun, after}
use Rattle.command_eval.specs.machine_correctness.machine_semantics.States.{State}
use Rattle.command_eval.specs.machine_correctness.machine_semantics.Steps.{Kinds}
use Rattle.command_eval.proofs.machine_correctness.separation_bounds.Ending.{ends_once}
use Rattle.command_eval.proofs.machine_correctness.separation_bounds.FipRuns.{never_deep}
use Rattle.command_eval.specs.machine_correctness.separation.Codes.{AreKinds}
use Rattle.fip_machine.specs.code_verify.Checked.{Checked}
use Rattle.fip_machine.specs.declared.gauge.Gauge.{Gauge}
use Rattle.fip_machine.specs.declared.machine.Ended.{Ended}
use Rattle.fip_machine.specs.Ending.{RunsTo}
use Rattle.fip_machine.specs.GaugeView.{Reports, ReportsRun}
use Rattle.command_eval.specs.machine_correctness.code_rules.StackNumbers.{HasStack}
use Rattle.command_eval.specs.machine_correctness.tree_refinement.Agreement.{AreWordsOf}
use Rattle.command_eval.specs.machine_correctness.tree_refinement.Runs.{IsSameEnd}
use Rattle.command_eval.proofs.machine_correctness.tree_refinement.Running.{trees_end}
use Rattle.session_semantics.specs.Talk.{frames_of}
use Rattle.command_eval.specs.machine_correctness.Ended.{EndsJustAs, ReportsJustOver}
use Rattle.command_eval.proofs.machine_correctness.VerifiedEnds.{runs_just, reports_just_run}
use Rattle.command_eval.specs.machine_correctness.Starts.{IsSoundCode, Begins}
use Rattle.command_eval.proofs.machine_correctness.EvaluatedEnds.{ended}
use Rattle.command_eval.proofs.machine_correctness.Starting.{starts, free_is}
use Rattle.command_run.specs.CodeRun as D
use Rattle.command_run.specs.CodeRun.{all_seen}

-- a run that is over, of which the gauge reports
record IsReported (r : Run) (g : Gauge) (ss : List Seen) : Type 0 where
  pub end : End
  pub last : State
  pub left : ℕ
  pub steps : ℕ
  pub is : r ≡ Over end last left steps
  pub reports : Reports g ss

reported_over : (r : Run) (g : Gauge) (ss : List Seen) → ReportsJustOver r g ss → IsReported r g ss
reported_over (Going s left n) g ss h = absurd h
reported_over (Over (C.Value ws) s left n) g ss h = record { end = C.Value ws; last = s; left = left; steps = n; is = refl; reports = h }
reported_over (Over (C.Trap kind line col) s left n) g ss h = record { end = C.Trap kind line col; last = s; left = left; steps = n; is = refl; reports = h }
reported_over (Over C.Out s left n) g ss h = record { end = C.Out; last = s; left = left; steps = n; is = refl; reports = h }
reported_over (Over C.Deep s left n) g ss h = record { end = C.Deep; last = s; left = left; steps = n; is = refl; reports = h }
reported_over (Over C.Unsound s left n) g ss h = absurd h

same_over : (e d : End) (s t : State) (l m j k : ℕ) (o : Ended) (last : State) (given : List ℕ) → Over e s l j ≡ Over d t m k → EndsJustAs d t o last given → EndsJustAs e s o last given
same_over e d s t l m j k o last given is h =
    let ends : d ≡ e = cc in
    let lasts : t ≡ s = cc in
    subst (λ x. EndsJustAs x s o last given) ends (subst (λ u. EndsJustAs d u o last given) lasts h)

pub ends_last : (end : End) (l : State) (o : Ended) (last : State) (given : List ℕ) → EndsJustAs end l o last given → last ≡ l
ends_last (C.Value ws) l o last given h = h.1
ends_last (C.Trap kind line col) l o last given h = h.1
ends_last C.Out l o last given h = h.1
ends_last C.Deep l o last given h = h.1
ends_last C.Unsound l o last given h = absurd h

pub record Came (v : Checked) (n : ℕ) (vs : Values) (calls frames : ℕ) (s : State) (o : Ended) (last : State) (given : List ℕ) (g : Gauge) : Type 0 where
  pub run : D.Run (plain v.code) n vs calls frames
  pub begins : run.first ≡ s
  pub as' : EndsJustAs run.end run.last o last given
  pub reports : Reports g (all_seen run)

pub came : (v : Checked) (before waits : Kinds) (n : ℕ) (f : PlainFunction) (vs : Values) (frames : ℕ) (s : State) (calls : ℕ) (o : Ended) (last : State) (given : List ℕ) (g : Gauge) → IsSoundCode v.code → AreKinds (plain v.code) before waits → Begins v.code n f vs frames s → RunsTo before (plain v.code) s calls o last given → ReportsRun before (plain v.code) s calls g → Came v n vs calls frames s o last given g
came v before waits n f vs frames s calls o last given g sound kinds b runs reports =
    let c = plain v.code in
    let t = starts v.code before waits n f vs frames s sound kinds b in
    let just = runs_just v before waits n [] s calls o last given t.0 runs in
    let x = ended (after before (plain v.code) just.0 (begun s calls)) o last given just.1 in
    let shown = reports_just_run v before waits n [] s calls g t.0 reports in
    let y = reported_over (after before (plain v.code) shown.0 (begun s calls)) g (seen before (plain v.code) shown.0 (begun s calls)) shown.1 in
    let ends : Ends before c s calls x.end x.last x.left x.steps = record { enough = just.0; is = x.is } in
    let same : Ends before c s calls y.end y.last y.left y.steps = record { enough = shown.0; is = y.is } in
    let once = ends_once c before waits before waits n [] s calls y.end x.end y.last x.last y.left x.left y.steps x.steps t.0 kinds same ends in
    record {
      run = record {
        before = before;
        waits = waits;
        first = s;
        starts = t.0;
        arguments = t.1;
        free = free_is v.code n f vs frames s b;
        end = y.end;
        last = y.last;
        left = y.left;
        steps = y.steps;
        ends = same;
      };
      begins = refl;
      as' = same_over y.end x.end y.last x.last y.left x.left y.steps x.steps o last given once x.as';
      reports = y.reports;
    }

-- ---- its end

stands_for : (tb : Table) (types : List ℕ) (l : State) (left : ℕ) (ws : List ℕ) (a : Answer) → IsSameEnd tb types l left (C.Value ws) a → (vs : Values) × AreWordsOf tb l.store types ws vs
stands_for tb types l left ws (Gives vs k) h = (vs, h.0)
stands_for tb types l left ws (Trap kind line col) h = absurd h
stands_for tb types l left ws Out h = absurd h
stands_for tb types l left ws Deep h = absurd h
stands_for tb types l left ws Stuck h = absurd h

-- words that a run gives stand for values
pub run_words : (c : PlainCode) (n : ℕ) (vs : Values) (calls frames : ℕ) (r : D.Run c n vs calls frames) (ws : List ℕ) → r.end ≡ C.Value ws → (us : Values) × AreWordsOf c.types (r.last).store (results c n) ws us
run_words c n vs calls frames r ws is =
    let x = trees_end c r.before r.waits n [] r.first vs calls r.end r.last r.left r.steps r.starts r.arguments r.ends in
    stands_for c.types (results c n) r.last r.left ws x.0 (subst (λ e. IsSameEnd c.types (results c n) r.last r.left e x.0) is x.3)

-- only a run of a function that isn't fip is too deep
pub run_deep : (c : PlainCode) (n : ℕ) (vs : Values) (calls given : ℕ) (held : Option Stack) → HasStack c n held → (r : D.Run c n vs calls (frames_of given held)) → r.end ≡ C.Deep → given ≡ frames_of given held
run_deep c n vs calls given None h r is = refl
run_deep c n vs calls given (Some s) h r is =
    let free : s.frames ≡ (r.first).free = sym r.free in
    absurd (never_deep c r.before r.waits n [] r.first calls (r.ends).enough s r.last r.left r.steps r.starts h.0 h.1 (omega (arith, free))
    ((r.ends).is ∙ ap (λ e. Over e r.last r.left r.steps) is))
