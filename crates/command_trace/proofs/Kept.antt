-- From what a machine says of its traced run to what `trace` ends in on a source.
use Rattle.std.proofs.Common.{◌≡◌, ◌≢◌, ◌∙◌, ℕ, true, false, List, [], length, Option, Some, None, option_map, refl, sym, ap, subst, arith}
use Rattle.std.specs.Prelude.{Result, Ok, Err}
use Rattle.std.proofs.lemmas.Option.{none-some, same_Some, slice_get-map}
use Rattle.std.proofs.lemmas.List.{append-nil}
use Rattle.fip_language.specs.declared.rule.Rule.TheVariants.{E75}
use Rattle.fip_language.specs.PrintedText.{printed_lines}
use Rattle.fip_language.specs.Table.{Table}
use Rattle.fip_language.specs.Values.{Values}
use Rattle.fip_base.specs.declared.plain.Stack.{Stack}
use Rattle.cell_trace.specs.declared.trace.Trace.{Trace as Memory}
use Rattle.cell_trace.specs.Traced.{Reports, IsTooLong, standing_from}
use Rattle.command_words.specs.Words.{Room}
use Rattle.command_outcome.specs.Stages.{IsOfRun}
use Rattle.command_outcome.specs.declared.failure.Failure.{Failure}
use Rattle.command_outcome.specs.declared.failure.Failure.TheVariants as F
use Rattle.code_verify.specs.cell_code.Plain.{PlainFunction, PlainCode, plain_function, plain}
use Rattle.trace_files.specs.machine_semantics.Cells.{Store}
use Rattle.trace_files.specs.machine_semantics.Runs.{Value}
use Rattle.trace_files.specs.machine_semantics.States.{Typed, State}
use Rattle.trace_files.specs.machine_semantics.Steps.{Kinds}
use Rattle.command_run.specs.separation.Codes.{AreKinds}
use Rattle.command_run.proofs.separation.KindsFound.{kinds_found}
use Rattle.fip_machine.specs.code_verify.Checked.{Checked}
use Rattle.fip_machine.specs.declared.machine.Ended.{Ended}
use Rattle.fip_machine.specs.declared.machine.Ended.TheVariants as M
use Rattle.fip_machine.specs.Ending.{KnowsRun}
use Rattle.fip_machine.specs.Machines.{Seen}
use Rattle.fip_machine.specs.Tasks.{state_with}
use Rattle.fip_machine.specs.Traces.{notes, HasTrace, HasLongTrace}
use Rattle.trace_files.specs.run_loading.Replaying.{trace_of}
use Rattle.trace_files.specs.run_loading.TraceText.{Trace, trace_text}
use Rattle.fip_machine.specs.machine_cells.Small.{IsSmall}
use Rattle.command_run.specs.session_semantics.Talk.{frames_of}
use Rattle.command_run.specs.command_source.Entries.{Chosen}
use Rattle.command_run.specs.command_source.ProgramCode.{IsEntryOf}
use Rattle.command_trace.proofs.Plain.{trace_is, is_long, not_long}
use Rattle.command_run.specs.command_source.Wanted.{Compiled, IsReady}
use Rattle.command_run.specs.source_report.Report.{bare}
use Rattle.command_run.specs.machine_correctness.Meant.{ArePrintable}
use Rattle.command_run.specs.machine_correctness.Starts.{IsSoundCode}
use Rattle.command_run.proofs.machine_correctness.EvaluatedEnds.{knows}
use Rattle.command_run.specs.command_eval.EvalAnswer.{OrNoMemory}
use Rattle.command_run.specs.CodeRun.{is_run_failure}
use Rattle.command_run.proofs.Leaving.{input_run}
use Rattle.command_run.specs.ExecAnswer.{Coded, Execs}
use Rattle.command_run.specs.Starting.{IsStarted, ReportsEnded, failure_for}
use Rattle.trace_files.specs.Plain.{plain_trace}
use Rattle.command_trace.specs.TraceAnswer.{IsRunTrace, IsTraceOf, IsLong, Traces, TracesRun, Ended as Ends, Stored, TooLong, KeptOrNoMemory}
use Rattle.command_trace.proofs.Valued.{Valued, valued}

-- what a machine says of the trace of its run
abbrev pub Says : Seen → ℕ → (Kinds → PlainCode → State → Type 0) → Type 0
Says m calls P = (kinds : Kinds) (lent : List Typed) → KnowsRun m.stack.code kinds (state_with m.stack lent m.store) calls → m.stack.ended ≡ None → IsSmall m.store.cells → m.pushed ≡ [] → P kinds (plain m.stack.code.code) (state_with m.stack lent m.store)

module _ (source name input : List ℕ) (r : Chosen) (ready : IsReady source (Compiled name)) (h : IsEntryOf source name r) (room : Room) (m : Seen) (st : IsStarted r input room m) (sound : IsSoundCode r.checked.code) where
  abbrev held : Option Stack
  held = st.has_frames.held

  found : (before : Kinds) × (waits : Kinds) × AreKinds (plain r.checked.code) before waits
  found = kinds_found (plain r.checked.code)

  known_there : KnowsRun m.stack.code found.0 (state_with m.stack (st.state).lent m.store) room.calls
  known_there = subst (λ (v : Checked). KnowsRun v found.0 (state_with m.stack (st.state).lent m.store) room.calls) (sym st.code) (subst (λ (s : State). KnowsRun r.checked found.0 s room.calls) (sym st.stands) (knows r.checked found.0 found.1 r.entry st.function st.values st.frames st.state room.calls sound found.2 st.begins))

  said : (P : Kinds → PlainCode → State → Type 0) → Says m room.calls P → P found.0 (plain r.checked.code) st.state
  said P says = subst (λ (v : Checked). P found.0 (plain v.code) st.state) st.code
      (subst (λ (s : State). P found.0 (plain m.stack.code.code) s) st.stands
      (says found.0 (st.state).lent known_there (st.fresh).going st.small st.pushed))

  -- the code of the source
  name_is : (st.function).name ≡ name
  name_is =
      let same : plain_function (h.named).function ≡ st.function = same_Some (plain_function (h.named).function) st.function (sym (slice_get-map plain_function r.checked.code.functions.items r.entry ∙ ap (option_map plain_function) (h.named).there) ∙ st.there) in
      ap (λ (f : PlainFunction). f.name) (sym same) ∙ (h.named).named

  abbrev coded : Coded source name
  coded = record {
    code = plain r.checked.code;
    of' = h.code;
    number = r.entry;
    function = st.function;
    there = st.there;
    named = name_is;
    some = λ e. let none = ap length e in let one = (h.named).some in absurd (omega (arith, none, one));
    held = held;
    stack = st.has_frames.stack;
  }

  -- the trace of a run of it that gives words
  traced : (t : Trace) → (Q : ℕ → Type 0) (x : Valued r.checked r.entry st.values room.calls st.frames found.0 st.state Q) → t ≡ trace_of found.0 (plain r.checked.code) st.state room.calls x.run.steps → IsRunTrace (plain r.checked.code) r.entry input room t
  traced t Q x is = subst (λ k. (y : Valued r.checked r.entry st.values room.calls k found.0 st.state Q) → t ≡ trace_of found.0 (plain r.checked.code) st.state room.calls y.run.steps → IsRunTrace (plain r.checked.code) r.entry input room t) (sym st.has_frames.are) (λ y e. over y e) x is
    where
      over : (y : Valued r.checked r.entry st.values room.calls (frames_of room.frames held) found.0 st.state Q) → t ≡ trace_of found.0 (plain r.checked.code) st.state room.calls y.run.steps → IsRunTrace (plain r.checked.code) r.entry input room t
      over y e = record {
        by = input_run r input room m st y.run y.begins;
        words = y.words;
        gives = y.gives;
        is = e ∙ (λ i. trace_of (sym y.kinds i) (plain r.checked.code) (sym y.begins i) room.calls y.run.steps);
      }

  -- a trace that is too long
  pub long_trace : Says m room.calls (λ kinds code s. HasLongTrace kinds code s room.calls 16777216) → (t : Trace) × IsRunTrace (plain r.checked.code) r.entry input room t × IsLong t
  long_trace says =
      let k = said (λ kinds code s. HasLongTrace kinds code s room.calls 16777216) says in
      let Q : ℕ → Type 0 = λ steps. IsTooLong (standing_from 0 (st.state).store.cells) (notes found.0 (plain r.checked.code) st.state room.calls steps) steps 16777216 in
      let x = valued r.checked found.0 found.1 r.entry st.function st.values st.frames st.state room.calls Q sound found.2 st.begins k.0 k.1 in
      let t = trace_of found.0 (plain r.checked.code) st.state room.calls x.run.steps in
      (t, traced t Q x refl, is_long found.0 (plain r.checked.code) st.state room.calls x.run.steps x.holds)

  -- one that is kept
  pub kept_trace : (u : Memory) (file : List ℕ) → Says m room.calls (λ kinds code s. HasTrace kinds code s room.calls 16777216 u) → file ≡ trace_text (plain_trace u) → (t : Trace) × IsRunTrace (plain r.checked.code) r.entry input room t × (IsLong t → ⊥) × (file ≡ trace_text t)
  kept_trace u file says is =
      let k = said (λ kinds code s. HasTrace kinds code s room.calls 16777216 u) says in
      let Q : ℕ → Type 0 = λ steps. Reports (standing_from 0 (st.state).store.cells) (notes found.0 (plain r.checked.code) st.state room.calls steps) steps 16777216 u in
      let x = valued r.checked found.0 found.1 r.entry st.function st.values st.frames st.state room.calls Q sound found.2 st.begins k.0 k.1 in
      let t = trace_of found.0 (plain r.checked.code) st.state room.calls x.run.steps in
      let same : plain_trace u ≡ t = trace_is found.0 (plain r.checked.code) st.state room.calls x.run.steps 16777216 u x.holds in
      (t, traced t Q x refl, not_long found.0 (plain r.checked.code) st.state room.calls x.run.steps u x.holds, is ∙ ap trace_text same)

  -- ---- of the source

  of_source : (t : Trace) → IsRunTrace (plain r.checked.code) r.entry input room t → IsTraceOf source name input room t
  of_source t x = record { code = coded; traced = x }

  pub long : (t : Trace) × IsRunTrace (plain r.checked.code) r.entry input room t × IsLong t → Traces source name input room (Err (F.Refused (bare E75)))
  long x = TooLong x.0 (of_source x.0 x.1) x.2

  pub stored : (file text : List ℕ) → (t : Trace) × IsRunTrace (plain r.checked.code) r.entry input room t × (IsLong t → ⊥) × (file ≡ trace_text t) → Execs source name input room false (Ok text) → Traces source name input room (Ok (record { file = file; text = text }))
  stored file text x execs = subst (λ bs. Traces source name input room (Ok (record { file = bs; text = text }))) (sym x.3) (Stored text x.0 execs (of_source x.0 x.1) x.2)

-- ---- what keeps from a value

pub failed : (source name input : List ℕ) (room : Room) (failure : Failure) → OrNoMemory (Execs source name input room false) (Err failure) → KeptOrNoMemory (Traces source name input room) (Err failure)
failed source name input room F.NoMemory h = tt
failed source name input room failure h = Ends failure h

-- where a run is reported no value, nothing is said of its trace
pub kept_own : (c : PlainCode) (n : ℕ) (input : List ℕ) (room : Room) (failure : Failure) → IsOfRun failure → TracesRun c n input room (Err failure)
kept_own c n input room (F.Refused r) h = absurd h
kept_own c n input room failure h = tt

-- a run with a trace ended with a value
pub with_trace : (o : Ended) (t : Option Memory) (u : Memory) → (o ≢ M.Value → t ≡ None) → t ≡ Some u → o ≡ M.Value
with_trace M.Value t u none is = refl
with_trace (M.Trap kind line col) t u none is = absurd (none-some u (sym (none (λ e. cc)) ∙ is))
with_trace M.Out t u none is = absurd (none-some u (sym (none (λ e. cc)) ∙ is))
with_trace M.Deep t u none is = absurd (none-some u (sym (none (λ e. cc)) ∙ is))

-- one without didn't
pub without_trace : (o : Ended) (t : Option Memory) → (o ≡ M.Value → t ≢ None) → t ≡ None → o ≢ M.Value
without_trace o t some is e = some e is

-- where nothing is reported, there was a value
pub value_alone : (o : Ended) (calls frames : ℕ) → failure_for o calls frames ≡ None → o ≡ M.Value
value_alone M.Value calls frames e = refl
value_alone (M.Trap kind line col) calls frames e = absurd (none-some (F.Trap kind line col) (sym e))
value_alone M.Out calls frames e = absurd (none-some (F.OutOfCalls calls) (sym e))
value_alone M.Deep calls frames e = absurd (none-some (F.OutOfFrames frames) (sym e))

-- how it ended is the end of a run
pub run_failed : (o : Ended) (calls frames : ℕ) (failure : Failure) → failure_for o calls frames ≡ Some failure → is_run_failure failure ≡ true
run_failed M.Value calls frames failure e = absurd (none-some failure e)
run_failed (M.Trap kind line col) calls frames failure e = ap is_run_failure (sym (same_Some (F.Trap kind line col) failure e))
run_failed M.Out calls frames failure e = ap is_run_failure (sym (same_Some (F.OutOfCalls calls) failure e))
run_failed M.Deep calls frames failure e = ap is_run_failure (sym (same_Some (F.OutOfFrames frames) failure e))

-- and is reported
pub reports_failure : (tb : Table) (types : List ℕ) (room : Room) (following : List ℕ) (s : Store) (given : List ℕ) (o : Ended) (failure : Failure) → o ≢ M.Value → failure_for o room.calls room.frames ≡ Some failure → ReportsEnded tb types room following s given o (Err failure)
reports_failure tb types room following s given M.Value failure n e = absurd (n refl)
reports_failure tb types room following s given (M.Trap kind line col) failure n e = ap Err (sym (same_Some (F.Trap kind line col) failure e))
reports_failure tb types room following s given M.Out failure n e = ap Err (sym (same_Some (F.OutOfCalls room.calls) failure e))
reports_failure tb types room following s given M.Deep failure n e = ap Err (sym (same_Some (F.OutOfFrames room.frames) failure e))

pub reports_value : (tb : Table) (types : List ℕ) (room : Room) (s : Store) (given : List ℕ) (o : Ended) (text : List ℕ) → o ≡ M.Value → ((vs : Values) → ArePrintable tb s.cells types given vs → text ≡ printed_lines tb types vs) → ReportsEnded tb types room [] s given o (Ok text)
reports_value tb types room s given o text is lines = subst (λ e. ReportsEnded tb types room [] s given e (Ok text)) (sym is) (λ vs p. ap Ok (lines vs p ∙ sym (append-nil (printed_lines tb types vs))))

pub or_memory : (P : Result (List ℕ) Failure → Type 0) (failure : Failure) → P (Err failure) → OrNoMemory P (Err failure)
or_memory P F.NoMemory h = tt
or_memory P failure h = h
