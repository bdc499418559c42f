-- From a machine's run to what `run` ends in on the code's file.
use Rattle.std.proofs.Common.{◌≡◌, ◌∙◌, ℕ, Bool, List, [], length, Option, Some, option_map, sym, ap, subst, arith}
use Rattle.std.specs.Prelude.{Result, Err}
use Rattle.std.specs.declared.vec.Vec.{Vec}
use Rattle.std.specs.declared.alloc.Global.{Global}
use Rattle.std.proofs.lemmas.Option.{same_Some, slice_get-map}
use Rattle.fip_language.specs.Table.{Table}
use Rattle.fip_language.specs.Values.{Values}
use Rattle.fip_base.specs.declared.plain.Stack.{Stack}
use Rattle.code_verify.specs.cell_code.Plain.{PlainFunction, PlainCode, plain_function, plain, function_at, results_of}
use Rattle.code_verify.specs.cell_code.Plain.{results}
use Rattle.command_words.specs.Words.{Room}
use Rattle.command_outcome.specs.declared.failure.Failure.{Failure}
use Rattle.command_outcome.specs.declared.failure.Failure.TheVariants as F
use Rattle.command_eval.specs.machine_correctness.machine_semantics.States.{State}
use Rattle.fip_machine.specs.declared.gauge.Gauge.{Gauge}
use Rattle.fip_machine.specs.declared.machine.Ended.{Ended}
use Rattle.fip_machine.specs.Machines.{Seen}
use Rattle.fip_machine.specs.Tasks.{state_with}
use Rattle.command_eval.specs.machine_correctness.code_rules.StackNumbers.{HasStack}
use Rattle.session_semantics.specs.Talk.{frames_of}
use Rattle.command_eval.specs.command_source.Entries.{Chosen, IsFunctionOf}
use Rattle.command_eval.specs.machine_correctness.tree_refinement.Agreement.{AreWordsOf}
use Rattle.value_text.specs.Loaded.{types_of}
use Rattle.command_eval.specs.EvalAnswer.{OrNoMemory}
use Rattle.command_run.specs.CodeRun as D
use Rattle.command_run.specs.CodeRun.{RunsCode, Misspelt, Small, Ran, ReportsCode, all_seen, words_for}
use Rattle.command_run.specs.GaugeText.{gauge_by_states, if_asked}
use Rattle.command_run.specs.Starting.{IsStarted, KeepsFromLoading, KeepsFromStart, ReportsEnded, gauge_lines}
use Rattle.command_run.proofs.Came.{Came, run_words, run_deep}
use Rattle.command_run.proofs.Gauging.{gauge_reports}
use Rattle.command_run.proofs.Ran as P
use Rattle.command_run.proofs.Reported.{said, reported_code}

-- the function of the code, and a run of it that is reported
record RanSo (tb : Table) (c : PlainCode) (n : ℕ) (f : PlainFunction) (vs : Values) (room : Room) (held : Option Stack) (gauge : Bool) (e : Result (List ℕ) Failure) : Type 0 where
  pub there : function_at c n ≡ Some f
  pub stack : HasStack c n held
  pub run : D.Run c n vs room.calls (frames_of room.frames held)
  pub reported : ReportsCode tb f.results room.calls (frames_of room.frames held) (if_asked gauge (gauge_by_states (all_seen run) held)) run.last run.end e

-- the run with as many frames as are said
ran_so : (r : Chosen) (f : PlainFunction) (vs : Values) (room : Room) (held : Option Stack) (gauge : Bool) (s : State) (o : Ended) (last : State) (given : List ℕ) (g : Gauge) (e : Result (List ℕ) Failure) → function_at (plain r.checked.code) r.entry ≡ Some f → HasStack (plain r.checked.code) r.entry held → Came r.checked r.entry vs room.calls (frames_of room.frames held) s o last given g → ReportsEnded r.checked.code.types f.results room (if_asked gauge (gauge_lines g held)) last.store given o e → RanSo r.checked.code.types (plain r.checked.code) r.entry f vs room held gauge e
ran_so r f vs room held gauge s o last given g e there stack came reported =
    let c = plain r.checked.code in
    let q = came.run in
    let tb : Table = r.checked.code.types in
    let lines : gauge_lines g held ≡ gauge_by_states (all_seen q) held = gauge_reports g (all_seen q) held came.reports in
    let types : results c r.entry ≡ f.results = ap results_of there in
    record {
      there = there;
      stack = stack;
      run = q;
      reported = reported_code tb f.results room (frames_of room.frames held) (if_asked gauge (gauge_by_states (all_seen q) held)) q.end q.last o last given e came.as'
          (λ ws is. subst (λ ts. (us : Values) × AreWordsOf tb q.last.store ts ws us) types (run_words c r.entry vs room.calls (frames_of room.frames held) q ws is))
          (run_deep c r.entry vs room.calls room.frames held stack q)
          (subst (λ xs. ReportsEnded tb f.results room (if_asked gauge xs) last.store given o e) lines reported);
    }

module _ (bytes name input : List ℕ) (r : Chosen) (h : IsFunctionOf bytes name r) (room : Room) (gauge : Bool) where
  named : (f : PlainFunction) → function_at (plain r.checked.code) r.entry ≡ Some f → f.name ≡ name
  named f is =
      let same : plain_function h.named.function ≡ f = same_Some (plain_function h.named.function) f (sym (slice_get-map plain_function r.checked.code.functions.items r.entry ∙ ap (option_map plain_function) h.named.there) ∙ is) in
      sym (ap (λ (q : PlainFunction). q.name) same) ∙ h.named.named

  some : name ≡ [] → ⊥
  some e = let none = ap length e in let one = h.named.some in absurd (omega (arith, none, one))

  abbrev chosen : (f : PlainFunction) (held : Option Stack) → function_at (plain r.checked.code) r.entry ≡ Some f → f.name ≡ name → HasStack (plain r.checked.code) r.entry held → D.Chosen bytes name
  chosen f held there has stack = record {
    code = plain r.checked.code;
    file = h.file;
    number = r.entry;
    function = f;
    there = there;
    named = has;
    some = some;
    held = held;
    stack = stack;
  }

  pub runs_code : (m : Seen) (st : IsStarted r input room m) (o : Ended) (new : Seen) (g : Gauge) → P.Ran r input room m st o new g → (e : Result (List ℕ) Failure) → ReportsEnded r.checked.code.types st.function.results room (if_asked gauge (gauge_lines g st.has_frames.held)) new.store new.stack.given o e → RunsCode bytes name input room gauge e
  runs_code m st o new g ran e reported =
      let held : Option Stack = st.has_frames.held in
      let f : PlainFunction = st.function in
      let came : Came r.checked r.entry st.values room.calls (frames_of room.frames held) st.state o (state_with new.stack st.state.lent new.store) new.stack.given g = subst (λ n. Came r.checked r.entry st.values room.calls n st.state o (state_with new.stack st.state.lent new.store) new.stack.given g) st.has_frames.are ran.came in
      let so = ran_so r f st.values room held gauge st.state o (state_with new.stack st.state.lent new.store) new.stack.given g e st.there st.has_frames.stack came reported in
      let x : RanSo r.checked.code.types (plain r.checked.code) r.entry f st.values room held gauge e = so in
      Ran (chosen f held x.there (named f st.there) x.stack) st.values x.run e st.spelt st.fits x.reported

  -- what keeps it from its start
  keeps : (f : PlainFunction) (held : Option Stack) (failure : Failure) → function_at (plain r.checked.code) r.entry ≡ Some f → f.name ≡ name → HasStack (plain r.checked.code) r.entry held → KeepsFromLoading r.checked.code.types (types_of f.params) f.credits input room.words failure → OrNoMemory (RunsCode bytes name input room gauge) (Err failure)
  keeps f held (F.BadInput at) there has stack k = Misspelt (chosen f held there has stack) at k
  keeps f held (F.TooSmall needed given) there has stack (vs, spelt, need, room_is, less) =
      let words : needed ≡ words_for vs f.credits = need in
      let all : given ≡ room.words = room_is in
      subst (λ n. RunsCode bytes name input room gauge (Err (F.TooSmall needed n))) (sym all)
      (subst (λ n. RunsCode bytes name input room gauge (Err (F.TooSmall n room.words))) (sym words)
      (Small (chosen f held there has stack) vs spelt (omega (arith, less, words))))
  keeps f held F.NoMemory there has stack k = tt
  keeps f held failure there has stack k = absurd k

  pub keeps_code : (failure : Failure) → KeepsFromStart r input room failure → OrNoMemory (RunsCode bytes name input room gauge) (Err failure)
  keeps_code failure k =
      let f : PlainFunction = plain_function h.named.function in
      let there : function_at (plain r.checked.code) r.entry ≡ Some f = slice_get-map plain_function r.checked.code.functions.items r.entry ∙ ap (option_map plain_function) h.named.there in
      keeps f k.held failure there (named f there) k.stack (k.keeps f there)

  -- how a run ended, reported
  pub finished : (m : Seen) (st : IsStarted r input room m) (o : Ended) (new : Seen) (g : Gauge) → P.Ran r input room m st o new g → (res : Result (Vec ℕ Global) Failure) → OrNoMemory (ReportsEnded r.checked.code.types h.named.function.results room (if_asked gauge (gauge_lines g st.has_frames.held)) new.store new.stack.given o) res → OrNoMemory (RunsCode bytes name input room gauge) res
  finished m st o new g ran res reported =
      let held : Option Stack = st.has_frames.held in
      let own : plain_function h.named.function ≡ st.function = same_Some (plain_function h.named.function) st.function (sym (slice_get-map plain_function r.checked.code.functions.items r.entry ∙ ap (option_map plain_function) h.named.there) ∙ st.there) in
      said (ReportsEnded r.checked.code.types h.named.function.results room (if_asked gauge (gauge_lines g held)) new.store new.stack.given o) (RunsCode bytes name input room gauge)
      (λ e k. runs_code m st o new g ran e (subst (λ (q : PlainFunction). ReportsEnded r.checked.code.types q.results room (if_asked gauge (gauge_lines g held)) new.store new.stack.given o e) own k)) res reported
