-- The cells that a machine holds after its run are those of the last state of the run of the code from where its input
-- is loaded.
use Rattle.std.proofs.Common.{◌≡◌, ◌∙◌, ℕ, List, Option, Some, None, sym, ap, subst}
use Rattle.std.specs.Prelude.{IfSome}
use Rattle.fip_base.specs.declared.plain.Stack.{Stack}
use Rattle.fip_language.specs.Values.{Values}
use Rattle.cell_store.specs.Made.{Stored}
use Rattle.command_words.specs.Words.{Room}
use Rattle.command_eval.specs.machine_correctness.machine_semantics.Runs.{loaded}
use Rattle.command_eval.specs.machine_correctness.machine_semantics.States.{State}
use Rattle.fip_machine.specs.declared.gauge.Gauge.{Gauge}
use Rattle.fip_machine.specs.declared.machine.Ended.{Ended}
use Rattle.fip_machine.specs.Machines.{Seen}
use Rattle.fip_machine.specs.Tasks.{state_with}
use Rattle.fip_machine.specs.machine_cells.Small.{store_of}
use Rattle.code_verify.specs.cell_code.Plain.{PlainCode, plain}
use Rattle.command_eval.specs.machine_correctness.run_loading.Loading.{first_store, first_words}
use Rattle.session_semantics.specs.Talk.{frames_of}
use Rattle.command_eval.specs.command_source.Entries.{Chosen}
use Rattle.command_run.specs.CodeRun as D
use Rattle.command_run.specs.Leaving.{IsLastStore, IsLeftBy}
use Rattle.command_run.specs.LoadedRun.{LoadedRun, InputRun}
use Rattle.command_run.specs.declared.running.Left.{Left}
use Rattle.command_run.specs.Starting.{IsStarted}
use Rattle.command_run.proofs.Came.{Came, ends_last}
use Rattle.command_run.proofs.Ran.{Ran}

-- a run that begins where its arguments are loaded
abbrev pub loaded_run : (c : PlainCode) (n : ℕ) (vs : Values) (credits : List ℕ) (calls frames : ℕ) (s : State) (run : D.Run c n vs calls frames) → run.first ≡ s → loaded c n (first_store vs credits) (first_words vs credits) frames ≡ Some s → LoadedRun c n vs credits calls frames
loaded_run c n vs credits calls frames s run at loads = record {
  before = run.before;
  waits = run.waits;
  kinds = run.starts.kinds;
  first = run.first;
  begins = loads ∙ ap (λ t. Some t) (sym at);
  end = run.end;
  last = run.last;
  left = run.left;
  steps = run.steps;
  ends = run.ends;
}

-- a run of what was started
abbrev pub input_run : (r : Chosen) (input : List ℕ) (room : Room) (m : Seen) (st : IsStarted r input room m) (run : D.Run (plain r.checked.code) r.entry st.values room.calls (frames_of room.frames st.has_frames.held)) → run.first ≡ st.state → InputRun (plain r.checked.code) r.entry input room
input_run r input room m st run at = record {
  function = st.function;
  there = st.there;
  values = st.values;
  spelt = st.spelt;
  fits = st.fits;
  held = st.has_frames.held;
  stack = st.has_frames.stack;
  run = loaded_run (plain r.checked.code) r.entry st.values st.function.credits room.calls (frames_of room.frames st.has_frames.held) st.state run at
      (subst (λ n. loaded (plain r.checked.code) r.entry (first_store st.values st.function.credits) (first_words st.values st.function.credits) n ≡ Some st.state) st.has_frames.are st.loads);
}

pub last_store : (r : Chosen) (input : List ℕ) (room : Room) (m : Seen) (st : IsStarted r input room m) (o : Ended) (new : Seen) (g : Gauge) (s : Stored) → Ran r input room m st o new g → store_of s.cells s.released ≡ new.store → IsLastStore r input room s
last_store r input room m st o new g s ran same =
    let held : Option Stack = st.has_frames.held in
    let last : State = state_with new.stack st.state.lent new.store in
    let came : Came r.checked r.entry st.values room.calls (frames_of room.frames held) st.state o last new.stack.given g = subst (λ n. Came r.checked r.entry st.values room.calls n st.state o last new.stack.given g) st.has_frames.are ran.came in
    let ends : last ≡ came.run.last = ends_last came.run.end came.run.last o last new.stack.given came.as' in
    (input_run r input room m st came.run came.begins, same ∙ ap (λ (s : State). s.store) ends)

-- what is handed to a host is such
pub left_by : (r : Chosen) (input : List ℕ) (room : Room) (cells : Option Stored) (left : Option Left) → IfSome cells (IsLastStore r input room) → IfSome left (λ l. (l.verified ≡ r.checked) × (cells ≡ Some l.cells)) → IfSome left (IsLeftBy r input room)
left_by r input room cells None h k = tt
left_by r input room cells (Some l) h k = record { code = k.0; cells = subst (λ c. IfSome c (IsLastStore r input room)) k.1 h }
