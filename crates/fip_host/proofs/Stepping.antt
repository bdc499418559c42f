-- What a step and a run say of a task that is laid aside between calls: the clauses speak of the task that was taken up,
-- and so of the one that stood there before.
use Rattle.std.proofs.Common.{◌≡◌, ℕ, Bool, List, Some, None, sym, ap, subst, ◌∙◌}
use Rattle.cell_code.specs.Plain.{plain}
use Rattle.fip_machine.specs.cell_store.Cells.{Cells}
use Rattle.fip_machine.specs.machine_cells.machine_semantics.Cells.{Store}
use Rattle.fip_machine.specs.machine_cells.Small.{store_of}
use Rattle.fip_machine.specs.machine_cells.machine_semantics.States.{Typed}
use Rattle.fip_machine.specs.machine_cells.machine_semantics.Steps.{Kinds, next}
use Rattle.fip_machine.specs.machine_step.Coming.{Comes, KnowsAt}
use Rattle.fip_machine.specs.machine_step.declared.rows.Stepped.{Stepped}
use Rattle.fip_machine.specs.code_verify.Checked.{Checked}
use Rattle.fip_machine.specs.declared.gauge.Gauge.{Gauge}
use Rattle.fip_machine.specs.declared.machine.Ended.{Ended}
use Rattle.fip_machine.specs.declared.stack.paused.Paused.{Paused}
use Rattle.fip_machine.specs.GaugeView.{IsUnseen, ReportsRun}
use Rattle.fip_machine.specs.Pausing.{CanResume, stand_of}
use Rattle.fip_machine.specs.Tasks.{Stand, state_with, ended_by, IsFresh}
use Rattle.fip_machine.specs.Ending.{KnowsRun, RunsTo}
use Rattle.fip_host.specs.declared.answer.FipEnd.{FipEnd}
use Rattle.fip_host.specs.Statuses.{end_by, end_by_run}
use Rattle.fip_host.specs.Hosting.{Seen, HasStepped, StepsTo, HasRun, RunsOn}

same_stand : (a b : Stand) → Some a ≡ Some b → a ≡ b
same_stand a b e = cc

pub same_store : (cs ds : Cells) (rs qs : List Bool) → cs ≡ ds → rs ≡ qs → store_of cs rs ≡ store_of ds qs
same_store cs ds rs qs e f = ap (λ (x : Cells). store_of x rs) e ∙ ap (λ (x : List Bool). store_of ds x) f

-- a task of a code, laid aside, is one of this code
pub resumed : (v : Checked) (p q : Paused) (a b : Stand) → a ≡ stand_of v p → b.code ≡ a.code → CanResume b.code q → CanResume v q
resumed v p q a b e code can = let same : b.code ≡ v = code ∙ ap (λ (t : Stand). t.code) e in subst (λ (w : Checked). CanResume w q) same can

pub stands : (v : Checked) (p q : Paused) (a b : Stand) → a ≡ stand_of v p → b.code ≡ a.code → stand_of b.code q ≡ b → stand_of v q ≡ b
stands v p q a b e code is = let same : b.code ≡ v = code ∙ ap (λ (t : Stand). t.code) e in subst (λ (w : Checked). stand_of w q ≡ b) same is

abbrev pub Steps : Stand → Stand → Store → Store → Stepped → Type 0
Steps a b so sn s = a.ended ≡ None → (kinds : Kinds) → KnowsAt a.code kinds a.running.function a.running.at → (lent : List Typed) →
    Comes (state_with a lent so) (next kinds (plain a.code.code) (state_with a lent so)) s (state_with b lent sn) b.given

abbrev pub Stays : Stand → Stand → Store → Store → Stepped → Type 0
Stays a b so sn s = (e : Stepped) → a.ended ≡ Some e → (s ≡ e) × (b ≡ a) × (sn ≡ so)

pub has_stepped : (v : Checked) (p q : Paused) (a b : Stand) (old new : Seen) (s : Stepped) (end : FipEnd) →
    old.task ≡ Some (stand_of v p) → new.task ≡ Some (stand_of v q) → a ≡ stand_of v p → stand_of v q ≡ b →
    end ≡ end_by (ended_by s) → Steps a b old.store new.store s → (a.ended ≡ None → b.ended ≡ ended_by s) →
    Stays a b old.store new.store s → StepsTo old new end
has_stepped v p q a b old new s end is_old is_new took stood reported going ends over t is =
    let here : a ≡ t = took ∙ same_stand (stand_of v p) t (sym is_old ∙ is) in
    subst (HasStepped old new end) here (record {
      stand = b;
      is = is_new ∙ ap (λ (x : Stand). Some x) stood;
      stepped = s;
      reported = reported;
      going = going;
      ends = ends;
      over = over;
    })

abbrev pub Runs : Stand → Stand → Store → Store → ℕ → Ended → Type 0
Runs a b so sn calls ended = (kinds : Kinds) (lent : List Typed) → KnowsRun a.code kinds (state_with a lent so) calls → a.ended ≡ None →
    RunsTo kinds (plain a.code.code) (state_with a lent so) calls ended (state_with b lent sn) b.given

abbrev pub Gauges : Stand → Store → ℕ → Gauge → Gauge → Type 0
Gauges a so calls old new = IsUnseen old → (kinds : Kinds) (lent : List Typed) → KnowsRun a.code kinds (state_with a lent so) calls →
    IsFresh a → ReportsRun kinds (plain a.code.code) (state_with a lent so) calls new

pub has_run : (v : Checked) (p q : Paused) (a b : Stand) (old new : Seen) (calls : ℕ) (ended : Ended) (end : FipEnd) →
    old.task ≡ Some (stand_of v p) → new.task ≡ Some (stand_of v q) → a ≡ stand_of v p → stand_of v q ≡ b →
    end ≡ end_by_run ended → Runs a b old.store new.store calls ended → Gauges a old.store calls old.gauge new.gauge →
    RunsOn old calls new end
has_run v p q a b old new calls ended end is_old is_new took stood reported runs gauge t is =
    let here : a ≡ t = took ∙ same_stand (stand_of v p) t (sym is_old ∙ is) in
    subst (HasRun old calls new end) here (record {
      stand = b;
      is = is_new ∙ ap (λ (x : Stand). Some x) stood;
      ended = ended;
      reported = reported;
      runs = runs;
      gauge = gauge;
    })
