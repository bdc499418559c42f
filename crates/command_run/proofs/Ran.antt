-- From a machine at the start of its function, and what it says of its run, to a run of the code to its end.
use Rattle.std.proofs.Common.{◌≡◌, ◌∙◌, ℕ, List, [], None, sym, ap, subst}
use Rattle.command_words.specs.Words.{Room}
use Rattle.code_verify.specs.cell_code.Plain.{plain}
use Rattle.command_eval.specs.machine_correctness.machine_semantics.States.{Typed, State}
use Rattle.command_eval.specs.machine_correctness.machine_semantics.Steps.{Kinds}
use Rattle.command_eval.specs.machine_correctness.machine_semantics.Runs.{Unsound, Over, begun, after}
use Rattle.command_eval.specs.machine_correctness.separation.Codes.{AreKinds}
use Rattle.command_eval.proofs.machine_correctness.separation.KindsFound.{kinds_found}
use Rattle.fip_machine.specs.code_verify.Checked.{Checked}
use Rattle.fip_machine.specs.declared.gauge.Gauge.{Gauge}
use Rattle.fip_machine.specs.declared.machine.Ended.{Ended}
use Rattle.fip_machine.specs.Ending.{KnowsRun, RunsTo, IsSafeRun}
use Rattle.fip_machine.specs.GaugeView.{ReportsRun}
use Rattle.fip_machine.specs.Machines.{Seen}
use Rattle.fip_machine.specs.Tasks.{state_with, IsFresh}
use Rattle.fip_machine.specs.machine_cells.Small.{IsSmall}
use Rattle.command_eval.specs.machine_correctness.Starts.{IsSoundCode}
use Rattle.command_eval.proofs.machine_correctness.EvaluatedEnds.{knows}
use Rattle.command_eval.proofs.machine_correctness.Starting.{starts}
use Rattle.command_eval.proofs.machine_correctness.separation.Running.{run_sound}
use Rattle.command_eval.specs.command_source.Entries.{Chosen}
use Rattle.command_run.specs.Starting.{IsStarted}
use Rattle.command_run.proofs.Came.{Came, came, ends_last}
use Rattle.command_run.proofs.Small.{ends_small}

-- no run from there reaches an instruction that can't be done
pub safe : (r : Chosen) (input : List ℕ) (room : Room) (m : Seen) → IsStarted r input room m → IsSoundCode r.checked.code → IsSafeRun m room.calls
safe r input room m st sound =
    let found = kinds_found (plain r.checked.code) in
    let begin = (starts r.checked.code found.0 found.1 r.entry st.function st.values st.frames st.state sound found.2 st.begins).0 in
    let known : KnowsRun r.checked found.0 st.state room.calls = knows r.checked found.0 found.1 r.entry st.function st.values st.frames st.state room.calls sound found.2 st.begins in
    let code : plain r.checked.code ≡ plain m.stack.code.code = ap (λ (v : Checked). plain v.code) (sym st.code) in
    record {
      going = (st.fresh).going;
      small = st.small;
      empty = st.pushed;
      kinds = found.0;
      lent = (st.state).lent;
      knows = subst (λ (v : Checked). KnowsRun v found.0 (state_with m.stack (st.state).lent m.store) room.calls) (sym st.code) (subst (λ (s : State). KnowsRun r.checked found.0 s room.calls) (sym st.stands) known);
      never = λ n left steps last e. run_sound (plain r.checked.code) found.0 found.1 r.entry [] st.state room.calls n last left steps begin ((λ i. after found.0 (code i) n (begun (sym st.stands i) room.calls)) ∙ e);
    }

-- what a machine says of its run, and of what a gauge saw of it
abbrev pub SaysRun : Seen → Seen → ℕ → Ended → Type 0
SaysRun m new calls o = (kinds : Kinds) (lent : List Typed) → KnowsRun m.stack.code kinds (state_with m.stack lent m.store) calls → m.stack.ended ≡ None → IsSmall m.store.cells → m.pushed ≡ [] → RunsTo kinds (plain m.stack.code.code) (state_with m.stack lent m.store) calls o (state_with new.stack lent new.store) new.stack.given

abbrev pub SaysGauge : Seen → ℕ → Gauge → Type 0
SaysGauge m calls g = (kinds : Kinds) (lent : List Typed) → KnowsRun m.stack.code kinds (state_with m.stack lent m.store) calls → IsFresh m.stack → IsSmall m.store.cells → m.pushed ≡ [] → ReportsRun kinds (plain m.stack.code.code) (state_with m.stack lent m.store) calls g

pub record Ran (r : Chosen) (input : List ℕ) (room : Room) (m : Seen) (st : IsStarted r input room m) (o : Ended) (new : Seen) (g : Gauge) : Type 0 where
  pub before : Kinds
  pub waits : Kinds
  pub kinds : AreKinds (plain r.checked.code) before waits
  pub runs : RunsTo before (plain r.checked.code) st.state room.calls o (state_with new.stack (st.state).lent new.store) new.stack.given
  pub reports : ReportsRun before (plain r.checked.code) st.state room.calls g
  pub came : Came r.checked r.entry st.values room.calls st.frames st.state o (state_with new.stack (st.state).lent new.store) new.stack.given g
  pub small : IsSmall new.store.cells

module _ (r : Chosen) (input : List ℕ) (room : Room) (m : Seen) (st : IsStarted r input room m) (o : Ended) (new : Seen) (g : Gauge) (sound : IsSoundCode r.checked.code) (says : SaysRun m new room.calls o) (shows : SaysGauge m room.calls g) where
  abbrev last : State
  last = state_with new.stack (st.state).lent new.store

  found : (before : Kinds) × (waits : Kinds) × AreKinds (plain r.checked.code) before waits
  found = kinds_found (plain r.checked.code)

  known : KnowsRun r.checked found.0 st.state room.calls
  known = knows r.checked found.0 found.1 r.entry st.function st.values st.frames st.state room.calls sound found.2 st.begins

  known_there : KnowsRun m.stack.code found.0 (state_with m.stack (st.state).lent m.store) room.calls
  known_there = subst (λ (v : Checked). KnowsRun v found.0 (state_with m.stack (st.state).lent m.store) room.calls) (sym st.code) (subst (λ (s : State). KnowsRun r.checked found.0 s room.calls) (sym st.stands) known)

  runs : RunsTo found.0 (plain r.checked.code) st.state room.calls o last new.stack.given
  runs = subst (λ (v : Checked). RunsTo found.0 (plain v.code) st.state room.calls o last new.stack.given) st.code
      (subst (λ (s : State). RunsTo found.0 (plain m.stack.code.code) s room.calls o last new.stack.given) st.stands
      (says found.0 (st.state).lent known_there (st.fresh).going st.small st.pushed))

  reports : ReportsRun found.0 (plain r.checked.code) st.state room.calls g
  reports = subst (λ (v : Checked). ReportsRun found.0 (plain v.code) st.state room.calls g) st.code
      (subst (λ (s : State). ReportsRun found.0 (plain m.stack.code.code) s room.calls g) st.stands
      (shows found.0 (st.state).lent known_there st.fresh st.small st.pushed))

  came_to : Came r.checked r.entry st.values room.calls st.frames st.state o last new.stack.given g
  came_to = came r.checked found.0 found.1 r.entry st.function st.values st.frames st.state room.calls o last new.stack.given g sound found.2 st.begins runs reports

  first_small : IsSmall came_to.run.first.store.cells
  first_small = subst (λ (s : State). IsSmall s.store.cells) (st.stands ∙ sym came_to.begins) st.small

  last_small : IsSmall new.store.cells
  last_small =
      let q = came_to.run in
      subst (λ (s : State). IsSmall s.store.cells) (sym (ends_last q.end q.last o last new.stack.given came_to.as'))
      (ends_small q.before (plain r.checked.code) q.ends.enough q.first room.calls q.end q.last q.left q.steps q.ends.is first_small)

  pub ran : Ran r input room m st o new g
  ran = record { before = found.0; waits = found.1; kinds = found.2; runs = runs; reports = reports; came = came_to; small = last_small }
