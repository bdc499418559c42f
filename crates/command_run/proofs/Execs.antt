-- From a machine's run to what `exec` ends in on a source.
use Rattle.std.proofs.Common.{◌≡◌, ◌≢◌, ◌∙◌, ◌<◌, ◌≤◌, ℕ, true, Bool, List, length, Option, Some, None, option_map, refl, sym, ap, subst, arith}
use Rattle.std.specs.Prelude.{Result, Err}
use Rattle.std.specs.declared.vec.Vec.{Vec}
use Rattle.std.specs.declared.alloc.Global.{Global}
use Rattle.std.proofs.lemmas.Option.{same_Some, slice_get-map}
use Rattle.fip_language.specs.declared.FunKind.{FunKind}
use Rattle.fip_machine.specs.cell_code.declared.code.CodeKind.{CodeKind}
use Rattle.fip_language.specs.declared.FunKind.TheVariants.{Fip}
use Rattle.fip_language.specs.Core.{Core}
use Rattle.fip_language.specs.Gauge.{Seen as a_seen}
use Rattle.fip_language.specs.Meaning.{Answer, Gives, Deep, Run, meaning}
use Rattle.fip_language.specs.Prefix.{IsPlace}
use Rattle.fip_language.specs.Statics.{NoClosed}
use Rattle.fip_language.specs.Table.{Table}
use Rattle.fip_language.specs.Values.{Values}
use Rattle.fip_language.specs.ValueText.{SpellsValues}
use Rattle.fip_base.specs.declared.plain.Stack.{Stack}
use Rattle.code_verify.specs.cell_code.Plain.{PlainFunction, PlainCode, plain_function, plain, function_at}
use Rattle.command_words.specs.Words.{Room}
use Rattle.command_outcome.specs.declared.failure.Failure.{Failure}
use Rattle.command_outcome.specs.declared.failure.Failure.TheVariants as F
use Rattle.command_eval.specs.machine_correctness.machine_semantics.States.{State}
use Rattle.command_eval.specs.machine_correctness.machine_semantics.Steps.{Kinds}
use Rattle.command_eval.specs.machine_correctness.separation.Codes.{HasLiterals, AreKinds}
use Rattle.fip_machine.specs.declared.gauge.Gauge.{Gauge}
use Rattle.fip_machine.specs.declared.machine.Ended.{Ended}
use Rattle.fip_machine.specs.Ending.{RunsTo}
use Rattle.fip_machine.specs.GaugeView.{Reports, ReportsRun}
use Rattle.fip_machine.specs.Machines.{Seen}
use Rattle.fip_machine.specs.Tasks.{state_with}
use Rattle.command_eval.specs.machine_correctness.code_rules.Codes.{is_fip, code_kind}
use Rattle.command_eval.specs.machine_correctness.code_rules.StackNumbers.{HasStack}
use Rattle.command_eval.proofs.machine_correctness.code_rules.Numbers.{has_once}
use Rattle.command_eval.specs.machine_correctness.tail_groups.Members.{AreMembers}
use Rattle.command_eval.specs.machine_correctness.lowering_relation.LoweredBodies.{function_of}
use Rattle.command_eval.proofs.machine_correctness.compiler_correctness.SoundTypes.{typed_sound}
use Rattle.session_semantics.specs.Talk.{frames_of}
use Rattle.command_eval.specs.command_source.Entries.{Chosen}
use Rattle.command_eval.specs.command_source.ProgramCode.{IsEntryOf}
use Rattle.command_eval.specs.command_source.Wanted.{Compiled, IsReady}
use Rattle.command_eval.specs.type_safety.Soundness.{parameter_types}
use Rattle.value_text.specs.Loaded.{types_of}
use Rattle.command_eval.specs.EvalAnswer.{Entry, OrNoMemory}
use Rattle.command_eval.specs.machine_correctness.Gauges.{IsFlat, IsMeasured}
use Rattle.command_eval.specs.machine_correctness.Starts.{IsCodeOf, Begins}
use Rattle.command_eval.proofs.machine_correctness.EvaluatedEnds.{answers_as_meant, not_deep}
use Rattle.command_eval.proofs.machine_correctness.Entries.{headers_of, named}
use Rattle.command_eval.proofs.machine_correctness.Flat.{gauge_flat}
use Rattle.command_eval.proofs.machine_correctness.Peaks.{measured}
use Rattle.command_eval.proofs.machine_correctness.Starting.{begins_of}
use Rattle.command_run.specs.CodeRun as D
use Rattle.command_run.specs.CodeRun.{all_seen, words_for}
use Rattle.command_run.specs.ExecAnswer.{ReportsRun as ReportsMeant, Coded, IsBoundOf, RunsInPlace, RunsOn, Execs, Misspelt, Small, Ran}
use Rattle.command_run.specs.GaugeText.{gauge_by_states, if_asked}
use Rattle.command_run.specs.Starting.{IsStarted, KeepsFromLoading, KeepsFromStart, ReportsEnded, gauge_lines}
use Rattle.command_run.proofs.Came.{Came}
use Rattle.command_run.proofs.Entry as N
use Rattle.command_run.proofs.Entry.{IsEntry}
use Rattle.command_run.proofs.Gauging.{gauge_reports}
use Rattle.command_run.proofs.Ran as P
use Rattle.command_run.proofs.Reported.{said, reported_meant}

-- ---- in place

flat_states : (g : Gauge) (vs : Values) (credits : List ℕ) (ss : List a_seen) (s : Stack) → Reports g ss → IsFlat g vs credits s → RunsInPlace vs credits ss (Some s)
flat_states g vs credits ss s t flat =
    let frames = flat.frames in
    let words = flat.words in
    record {
      lowest = λ size one few. sym (t.lowest size one few) ∙ flat.lowest size one few;
      highest = λ size one few. sym (t.highest size one few) ∙ flat.highest size one few;
      within = (subst (λ n. n ≤ s.frames) t.frames frames, subst (λ n. n ≤ s.words) t.words words);
    }

-- ---- the run of a code of the source, which is reported as the source means

record MeantSo (core : Core) (name : List ℕ) (tb : Table) (c : PlainCode) (n : ℕ) (f : PlainFunction) (vs : Values) (room : Room) (held : Option Stack) (gauge : Bool) (e : Result (List ℕ) Failure) : Type 0 where
  pub there : function_at c n ≡ Some f
  pub stack : HasStack c n held
  pub run : D.Run c n vs room.calls (frames_of room.frames held)
  pub reported : ReportsMeant tb f.results room.calls (frames_of room.frames held) (λ _. if_asked gauge (gauge_by_states (all_seen run) held)) (meaning core name NoClosed vs room.calls (frames_of room.frames held)).answer e
  pub measured : (results : Values) (left : ℕ) → (meaning core name NoClosed vs room.calls (frames_of room.frames held)).answer ≡ Gives results left → IsMeasured vs results f.params f.credits (meaning core name NoClosed vs room.calls (frames_of room.frames held)).peak (all_seen run)
  pub in_place : is_fip f.kind ≡ true → RunsInPlace vs f.credits (all_seen run) held
  pub never_deep : is_fip f.kind ≡ true → (meaning core name NoClosed vs room.calls (frames_of room.frames held)).answer ≢ Deep

module _ (source : List ℕ) (core : Core) (r : Chosen) (is : IsCodeOf source core r.checked.code) (found : AreMembers is.program.instances is.members) (f : PlainFunction) (vs : Values) (room : Room) (gauge : Bool) (s : State) (some : 0 < length f.name) where
  module _ (held : Option Stack) (stack : HasStack (plain r.checked.code) r.entry held) (b : Begins r.checked.code r.entry f vs (frames_of room.frames held) s) where
    abbrev frames : ℕ
    frames = frames_of room.frames held

    abbrev answer : Answer
    answer = (meaning core f.name NoClosed vs room.calls frames).answer

    meant_flat : (before waits : Kinds) (g : Gauge) (ss : List a_seen) → AreKinds (plain r.checked.code) before waits → ReportsRun before (plain r.checked.code) s room.calls g → Reports g ss → is_fip f.kind ≡ true → (o : Option Stack) → HasStack (plain r.checked.code) r.entry o → RunsInPlace vs f.credits ss o
    meant_flat before waits g ss kinds reports t fip None h = absurd (h (f, b.is, fip))
    meant_flat before waits g ss kinds reports t fip (Some k) h =
        flat_states g vs f.credits ss k t (gauge_flat r.checked before waits r.entry f vs frames s room.calls k g is.is_sound kinds b fip h.1 reports)

  fip_not_deep : (held : Option Stack) (stack : HasStack (plain r.checked.code) r.entry held) (b : Begins r.checked.code r.entry f vs (frames_of room.frames held) s) → is_fip f.kind ≡ true → (meaning core f.name NoClosed vs room.calls (frames_of room.frames held)).answer ≢ Deep
  fip_not_deep None stack b fip = absurd (stack (f, b.is, fip))
  fip_not_deep (Some k) stack b fip = not_deep source core r.checked.code r.entry f vs k.frames s room.calls k is b some fip stack.1 (omega arith)

  deep_frames : (held : Option Stack) (stack : HasStack (plain r.checked.code) r.entry held) (b : Begins r.checked.code r.entry f vs (frames_of room.frames held) s) → (meaning core f.name NoClosed vs room.calls (frames_of room.frames held)).answer ≡ Deep → room.frames ≡ frames_of room.frames held
  deep_frames None stack b deep = refl
  deep_frames (Some k) stack b deep =
      absurd (not_deep source core r.checked.code r.entry f vs k.frames s room.calls k is b some (fip_of stack) stack.1 (omega arith) deep)
    where
      fip_of : HasStack (plain r.checked.code) r.entry (Some k) → is_fip f.kind ≡ true
      fip_of h = subst (λ (q : PlainFunction). is_fip q.kind ≡ true) (same_Some h.0.0 f (sym h.0.1 ∙ b.is)) h.0.2

  meant_so : (held : Option Stack) (stack : HasStack (plain r.checked.code) r.entry held) (b : Begins r.checked.code r.entry f vs (frames_of room.frames held) s) (before waits : Kinds) (o : Ended) (last : State) (given : List ℕ) (g : Gauge) (e : Result (List ℕ) Failure) → AreKinds (plain r.checked.code) before waits → RunsTo before (plain r.checked.code) s room.calls o last given → ReportsRun before (plain r.checked.code) s room.calls g → Came r.checked r.entry vs room.calls (frames_of room.frames held) s o last given g → ReportsEnded r.checked.code.types f.results room (if_asked gauge (gauge_lines g held)) last.store given o e → MeantSo core f.name r.checked.code.types (plain r.checked.code) r.entry f vs room held gauge e
  meant_so held stack b before waits o last given g e kinds runs reports came reported =
      let tb : Table = r.checked.code.types in
      let q = came.run in
      let frames : ℕ = frames_of room.frames held in
      let lines : gauge_lines g held ≡ gauge_by_states (all_seen q) held = gauge_reports g (all_seen q) held came.reports in
      let meant = answers_as_meant source core r.checked before waits r.entry f vs frames s room.calls o last given is kinds b some runs in
      record {
        there = b.is;
        stack = stack;
        run = q;
        reported = reported_meant tb f.results room frames (if_asked gauge (gauge_by_states (all_seen q) held)) o last given (meaning core f.name NoClosed vs room.calls frames).answer e meant (deep_frames held stack b)
            (subst (λ xs. ReportsEnded tb f.results room (if_asked gauge xs) last.store given o e) lines reported);
        measured = λ us rest gives. measured source core r.checked.code q.before q.waits r.entry f vs us frames q.first room.calls rest q.end q.last q.left q.steps is found (q.starts).kinds
            (begins_of r.checked.code q.before q.waits r.entry f vs frames q.first q.starts q.arguments b.is q.free) some gives q.ends;
        in_place = λ fip. meant_flat held stack b before waits g (all_seen q) kinds reports came.reports fip held stack;
        never_deep = fip_not_deep held stack b;
      }

-- ---- of the source

fip_kind : (c : CodeKind) (k : FunKind) → c ≡ code_kind k → k ≡ Fip → is_fip c ≡ true
fip_kind c k of' e = ap is_fip (of' ∙ ap code_kind e)

module _ (source name input : List ℕ) (r : Chosen) (ready : IsReady source (Compiled name)) (h : IsEntryOf source name r) (literals : HasLiterals (plain r.checked.code)) (room : Room) (gauge : Bool) where
  abbrev entry : Entry source name
  entry = N.entry source name r ready h

  abbrev f : PlainFunction
  f = plain_function (N.function source name r ready h)

  header : IsEntry r entry (N.function source name r ready h)
  header = N.is_entry source name r ready h

  types_same : r.checked.code.types ≡ entry.program.types
  types_same = h.code.lowered.types

  there_is : function_at (plain r.checked.code) r.entry ≡ Some f
  there_is = slice_get-map plain_function r.checked.code.functions.items r.entry ∙ ap (option_map plain_function) header.at

  params_same : types_of f.params ≡ parameter_types entry.root
  params_same = ap types_of header.params

  abbrev coded : (held : Option Stack) → function_at (plain r.checked.code) r.entry ≡ Some f → HasStack (plain r.checked.code) r.entry held → Coded source name
  coded held there stack = record {
    code = plain r.checked.code;
    of' = h.code;
    number = r.entry;
    function = f;
    there = there;
    named = header.named;
    some = λ e. let none = ap length (header.named ∙ e) in let one = header.some in absurd (omega (arith, none, one));
    held = held;
    stack = stack;
  }

  -- what the run holds of the stack is what is reported of the root
  bound_is : (held : Option Stack) → HasStack (plain r.checked.code) r.entry held → IsBoundOf entry held
  bound_is held stack ms found i m at there =
      let root = N.root_at name entry.program.instances entry.root entry.named in
      let x = named entry.program h.code.lowered.members (plain r.checked.code) r.entry f types_same (headers_of r.checked.code.functions.items ∙ N.headed source name r ready h) there_is header.some in
      let one : x.place ≡ i = (typed_sound source entry.program (N.types source name r ready h)).roots x.place i x.instance entry.root x.there at x.root root.root (sym x.name ∙ header.named ∙ sym root.named) in
      let number : function_of entry.program.instances i ≡ Some r.entry = subst (λ j. function_of entry.program.instances j ≡ Some r.entry) one x.of'.function in
      has_once (plain r.checked.code) r.entry held m.stack stack (h.code.lowered.stacks ms found i r.entry m number there)

  -- what is reported by the function's header is reported by the root's
  on_root : (vs : Values) (held : Option Stack) (e : Result (List ℕ) Failure) → MeantSo entry.core f.name r.checked.code.types (plain r.checked.code) r.entry f vs room held gauge e → RunsOn entry vs room gauge e
  on_root vs held e x =
      let frames : ℕ = frames_of room.frames held in
      let following : Values → List ℕ = λ _. if_asked gauge (gauge_by_states (all_seen x.run) held) in
      let answer : List ℕ → Answer = λ n. (meaning entry.core n NoClosed vs room.calls frames).answer in
      let run : Core → List ℕ → Run = λ c n. meaning c n NoClosed vs room.calls frames in
      let by_name = subst (λ n. ReportsMeant r.checked.code.types f.results room.calls frames following (answer n) e) header.named x.reported in
      let by_types = subst (λ tb. ReportsMeant tb f.results room.calls frames following (answer name) e) types_same by_name in
      let by_results = subst (λ rs. ReportsMeant entry.program.types rs room.calls frames following (answer name) e) header.results by_types in
      record {
        code = coded held x.there x.stack;
        run = x.run;
        reported = by_results;
        measured = λ us rest gives.
            subst (λ ps. IsMeasured vs us ps entry.root.credits (run entry.core name).peak (all_seen x.run)) header.params
            (subst (λ ks. IsMeasured vs us f.params ks (run entry.core name).peak (all_seen x.run)) header.credits
            (subst (λ n. IsMeasured vs us f.params f.credits (run entry.core n).peak (all_seen x.run)) header.named
            (x.measured us rest (subst (λ n. (run entry.core n).answer ≡ Gives us rest) (sym header.named) gives))));
        bound = bound_is held x.stack;
        in_place = λ fip. subst (λ ks. RunsInPlace vs ks (all_seen x.run) held) header.credits (x.in_place (fip_kind f.kind (entry.root).kind header.kind fip));
        never_deep = λ fip. subst (λ n. answer n ≢ Deep) header.named (x.never_deep (fip_kind f.kind (entry.root).kind header.kind fip));
      }

  spells : (vs : Values) → SpellsValues r.checked.code.types (types_of f.params) input vs → SpellsValues entry.program.types (parameter_types entry.root) input vs
  spells vs k = subst (λ ks. SpellsValues entry.program.types ks input vs) params_same (subst (λ tb. SpellsValues tb (types_of f.params) input vs) types_same k)

  -- the machine's function is this one
  pub execs : (m : Seen) (st : IsStarted r input room m) (o : Ended) (new : Seen) (g : Gauge) → P.Ran r input room m st o new g → (e : Result (List ℕ) Failure) → ReportsEnded r.checked.code.types st.function.results room (if_asked gauge (gauge_lines g st.has_frames.held)) new.store new.stack.given o e → Execs source name input room gauge e
  execs m st o new g ran e reported =
      let held : Option Stack = st.has_frames.held in
      let last : State = state_with new.stack st.state.lent new.store in
      let own : st.function ≡ f = same_Some st.function f (sym st.there ∙ there_is) in
      let spelt : SpellsValues r.checked.code.types (types_of f.params) input st.values = subst (λ (q : PlainFunction). SpellsValues r.checked.code.types (types_of q.params) input st.values) own st.spelt in
      let fits : words_for st.values f.credits ≤ room.words = subst (λ (q : PlainFunction). words_for st.values q.credits ≤ room.words) own st.fits in
      let begins : Begins r.checked.code r.entry f st.values (frames_of room.frames held) st.state =
      subst (λ (q : PlainFunction). Begins r.checked.code r.entry q st.values (frames_of room.frames held) st.state) own
      (subst (λ n. Begins r.checked.code r.entry st.function st.values n st.state) st.has_frames.are st.begins) in
      let came : Came r.checked r.entry st.values room.calls (frames_of room.frames held) st.state o last new.stack.given g = subst (λ n. Came r.checked r.entry st.values room.calls n st.state o last new.stack.given g) st.has_frames.are ran.came in
      let said : ReportsEnded r.checked.code.types f.results room (if_asked gauge (gauge_lines g held)) new.store new.stack.given o e = subst (λ (q : PlainFunction). ReportsEnded r.checked.code.types q.results room (if_asked gauge (gauge_lines g held)) new.store new.stack.given o e) own reported in
      let so = meant_so source entry.core r (N.code_of source name r ready h literals) (N.members_found source name r ready h literals) f st.values room gauge st.state header.some held st.has_frames.stack begins ran.before ran.waits o last new.stack.given g e ran.kinds ran.runs ran.reports came said in
      let x = so in
      Ran entry st.values e (spells st.values spelt) (subst (λ ks. words_for st.values ks ≤ room.words) header.credits fits) (on_root st.values held e x)

  -- what keeps it from its start
  keeps : (failure : Failure) → KeepsFromLoading r.checked.code.types (types_of f.params) f.credits input room.words failure → OrNoMemory (Execs source name input room gauge) (Err failure)
  keeps (F.BadInput at) k =
      let place : IsPlace (SpellsValues entry.program.types (parameter_types entry.root)) input at = subst (λ ks. IsPlace (SpellsValues entry.program.types ks) input at) params_same (subst (λ tb. IsPlace (SpellsValues tb (types_of f.params)) input at) types_same k) in
      Misspelt entry at place
  keeps (F.TooSmall needed given) (vs, spelt, need, room_is, less) =
      let words : needed ≡ words_for vs entry.root.credits = need ∙ ap (words_for vs) header.credits in
      subst (λ n. Execs source name input room gauge (Err (F.TooSmall needed n))) (sym room_is)
      (subst (λ n. Execs source name input room gauge (Err (F.TooSmall n room.words))) (sym words)
      (Small entry vs (spells vs spelt) (omega (arith, less, words))))
  keeps F.NoMemory k = tt
  keeps failure k = absurd k

  pub keeps_exec : (failure : Failure) → KeepsFromStart r input room failure → OrNoMemory (Execs source name input room gauge) (Err failure)
  keeps_exec failure k = keeps failure (k.keeps f there_is)

  -- how a run ended, reported
  pub finished : (m : Seen) (st : IsStarted r input room m) (o : Ended) (new : Seen) (g : Gauge) → P.Ran r input room m st o new g → (res : Result (Vec ℕ Global) Failure) → OrNoMemory (ReportsEnded r.checked.code.types h.named.function.results room (if_asked gauge (gauge_lines g st.has_frames.held)) new.store new.stack.given o) res → OrNoMemory (Execs source name input room gauge) res
  finished m st o new g ran res reported =
      let held : Option Stack = st.has_frames.held in
      let own : f ≡ st.function = same_Some f st.function (sym there_is ∙ st.there) in
      said (ReportsEnded r.checked.code.types f.results room (if_asked gauge (gauge_lines g held)) new.store new.stack.given o) (Execs source name input room gauge)
      (λ e k. execs m st o new g ran e (subst (λ (q : PlainFunction). ReportsEnded r.checked.code.types q.results room (if_asked gauge (gauge_lines g held)) new.store new.stack.given o e) own k)) res reported
