-- Where a source has a code, `trace` has an end.
-- The idea: the function of the root is loaded and its run ends as the root means; where that gives values the run gives
-- words, and its trace can be stored or can't.
use Rattle.std.proofs.Common.{◌≡◌, ◌∙◌, ◌≤◌, ◌<◌, ◌++◌, ◌^◌, ℕ, false, List, [], length, Option, Some, None, slice_get, get_or, if◌then◌else◌, inl, inr, refl, sym, ap, subst, arith}
use Rattle.std.specs.Prelude.{◌⊎◌, Ok, Err, option_and_then}
use Rattle.std.proofs.lemmas.Option.{slice_get_within, slice_get-get_or}
use Rattle.command_answers.proofs.command_library.fip_language.Search.{le_or_less}
use Rattle.command_answers.specs.command_library.fip_language.declared.FunKind.TheVariants.{Fun}
use Rattle.command_answers.specs.command_library.fip_language.declared.limits.TheConstants.{MOST_FILE_BYTES}
use Rattle.command_answers.specs.command_library.fip_language.declared.rule.Rule.TheVariants.{E75}
use Rattle.command_answers.specs.command_library.fip_language.Character.{characters}
use Rattle.command_answers.specs.command_library.fip_language.Meaning.{Answer, Gives, Trap, Out, Deep, Stuck, Run, meaning}
use Rattle.command_answers.specs.command_library.fip_language.PrintedText.{printed_lines}
use Rattle.command_answers.specs.command_library.fip_language.Prefix.{IsPlace}
use Rattle.command_answers.specs.command_library.fip_language.Statics.{NoClosed}
use Rattle.command_answers.specs.command_library.fip_language.Table.{Table}
use Rattle.command_answers.specs.command_library.fip_language.Values.{Values}
use Rattle.command_answers.specs.command_library.fip_language.ValueText.{SpellsValues}
use Rattle.command_answers.specs.command_library.fip_base.declared.plain.Stack.{Stack}
use Rattle.worked_examples.specs.fip_trees.declared.groups.Member.{Member}
use Rattle.worked_examples.specs.fip_trees.Tree.{Instance, Program}
use Rattle.worked_examples.specs.cell_lower.Shape.{Header, header_of, headers}
use Rattle.worked_examples.specs.cell_code.Plain.{PlainFunction, PlainCode, results}
use Rattle.worked_examples.specs.instance_semantics.Meaning.{flat_meaning}
use Rattle.worked_examples.specs.lowering_relation.LoweredBodies.{function_of}
use Rattle.worked_examples.specs.lowering_simulation.CellEnds.{EndsAs}
use Rattle.worked_examples.specs.source_report.Report.{bare}
use Rattle.worked_examples.specs.tree_refinement.Runs.{IsSameEnd}
use Rattle.worked_examples.specs.type_safety.Soundness.{IsSoundAnswer, parameter_types}
use Rattle.command_answers.proofs.command_tasks.source_report.Once.{accepted_once}
use Rattle.command_answers.specs.command_library.command_words.Words.{Room}
use Rattle.command_answers.specs.command_library.command_outcome.declared.failure.Failure.{Failure}
use Rattle.command_answers.specs.command_library.command_outcome.declared.failure.Failure.TheVariants as O
use Rattle.command_answers.specs.command_library.machine_semantics.Runs as C
use Rattle.command_answers.specs.command_library.machine_semantics.Runs.{loaded}
use Rattle.command_answers.specs.command_library.machine_semantics.States.{State}
use Rattle.command_answers.specs.command_library.machine_semantics.Steps.{Kinds}
use Rattle.command_answers.specs.command_library.code_rules.StackNumbers.{HasStack}
use Rattle.command_answers.specs.command_library.separation.Codes.{AreKinds}
use Rattle.command_answers.proofs.command_library.separation.KindsFound.{kinds_found}
use Rattle.command_answers.specs.command_library.run_loading.Loading.{first_store, first_words}
use Rattle.command_answers.specs.command_library.run_loading.TraceText.{Trace, trace_text}
use Rattle.command_answers.proofs.command_library.run_loading.Begins.{is_loaded}
use Rattle.command_answers.specs.command_library.session_semantics.Talk.{frames_of}
use Rattle.command_answers.specs.command_library.value_text.Loaded.{types_of}
use Rattle.command_answers.proofs.command_library.value_text.Typed.{input_typed}
use Rattle.command_answers.proofs.command_library.command_run.machine_correctness.Entries.{plain_header, IsNamed, named}
use Rattle.command_answers.proofs.command_library.command_run.compiler_correctness.Headers.{typed_named}
use Rattle.command_answers.proofs.command_library.command_run.compiler_correctness.SoundTypes.{typed_sound}
use Rattle.command_answers.specs.command_library.command_source.Roots.{root_named, held}
use Rattle.command_answers.specs.command_library.command_source.Wanted.{Compiled, IsCompiled, IsReady}
use Rattle.command_answers.specs.command_library.command_eval.EvalAnswer.{Spells}
use Rattle.command_answers.proofs.command_library.command_eval.Meant.{typed_of}
use Rattle.command_answers.specs.command_library.command_run.CodeRun.{words_for}
use Rattle.command_answers.specs.command_library.command_run.LoadedRun.{LoadedRun, InputRun, trace_of_run}
use Rattle.command_answers.proofs.command_library.command_run.CodeOnce.{long}
use Rattle.command_answers.proofs.command_library.command_run.Entry.{IsRootAt, root_at, header_at}
use Rattle.command_answers.specs.command_trace.TraceAnswer.{IsLong}
use Rattle.compile_correctness.proofs.Rooted.{function_with, among_at}
use Rattle.command_answers.specs.CodeOf.{IsLoaded, IsSourceCode, IsSourceTrace}
use Rattle.command_answers.specs.Ends as A
use Rattle.command_answers.specs.Ends.{TracesTo}
use Rattle.command_answers.specs.Exec as X
use Rattle.command_answers.specs.Exec.{End, Start, Execs, ReportsRun, gauge_by_trees}
use Rattle.command_answers.specs.GaugeText.{if_asked}
use Rattle.answer_correctness.proofs.Joined.{headed}
use Rattle.answer_correctness.proofs.SomeSource.{means, sound, started, text_or_place}

-- ---- a trace can be stored, or can't

long_or_not : (t : Trace) → IsLong t ⊎ (IsLong t → ⊥)
long_or_not t = by (le_or_less (length (trace_text t)) MOST_FILE_BYTES) (le_or_less (length t.events) 4294967295) (le_or_less (2 ^ 64) t.steps)
  where
    short : length (trace_text t) ≤ MOST_FILE_BYTES → length t.events ≤ 4294967295 → t.steps < 2 ^ 64 → IsLong t → ⊥
    short a b c (inl more) = omega (arith, a, more)
    short a b c (inr (inl more)) = omega (arith, b, more)
    short a b c (inr (inr more)) = omega (arith, c, more)

    by : (length (trace_text t) ≤ MOST_FILE_BYTES) ⊎ (MOST_FILE_BYTES < length (trace_text t)) → (length t.events ≤ 4294967295) ⊎ (4294967295 < length t.events) → (2 ^ 64 ≤ t.steps) ⊎ (t.steps < 2 ^ 64) → IsLong t ⊎ (IsLong t → ⊥)
    by (inr more) b c = inl (inl more)
    by (inl a) (inr more) c = inl (inr (inl more))
    by (inl a) (inl b) (inl more) = inl (inr (inr more))
    by (inl a) (inl b) (inr c) = inr (short a b c)

abbrev no_member : Member
no_member = record { group = 0; registers = 0; stack = None }

-- a run that ends as values gives words
words_given : (tb : Table) (ts : List ℕ) (last : State) (left : ℕ) (end : C.End) (us : Values) (k : ℕ) → IsSameEnd tb ts last left end (Gives us k) → (ws : List ℕ) × (end ≡ C.Value ws)
words_given tb ts last left (C.Value ws) us k h = (ws, refl)
words_given tb ts last left (C.Trap kind line col) us k h = absurd h
words_given tb ts last left C.Out us k h = absurd h
words_given tb ts last left C.Deep us k h = absurd h
words_given tb ts last left C.Unsound us k h = absurd h

module _ (source name : List ℕ) (code : PlainCode) (of' : IsSourceCode source code) (d : Instance) (found : root_named name (of'.program).instances ≡ Some d) (ruled : d.kind ≡ Fun → ⊥) where
  abbrev p : Program
  p = of'.program

  abbrev c : PlainCode
  c = code

  abbrev s : Start source name
  s = started source name p of'.accepted d found

  abbrev r : IsRootAt name p.instances d
  r = root_at name p.instances d found

  -- ---- its function

  x : (m : ℕ) × (k : ℕ) × (slice_get (headers of'.is.members p.instances) m ≡ Some (header_of k d))
  x = header_at of'.is.members 0 p.instances r.place d r.there ruled

  y : (f : PlainFunction) × (slice_get c.functions x.0 ≡ Some f) × (plain_header f ≡ header_of x.1 d)
  y = function_with c.functions x.0 (header_of x.1 d) (ap (λ hs. slice_get hs x.0) (headed source name code of') ∙ x.2)

  abbrev n : ℕ
  n = x.0

  abbrev f : PlainFunction
  f = y.0

  called : f.name ≡ name
  called = ap (λ (q : Header). q.name) y.2 ∙ (ap (λ b. if b then d.name else []) r.root ∙ r.named)

  some : name ≡ [] → ⊥
  some z =
      let one = (typed_named source p (typed_of source p of'.accepted) d (among_at p.instances r.place d r.there)).0.1 in
      let zero_long : length d.name ≡ 0 = ap length (r.named ∙ z) in
      omega (arith, one, zero_long)

  own : IsNamed p c n f
  own = named p of'.is.members c n f of'.is.types (headed source name code of') y.1 (subst (λ (q : List ℕ). 0 < length q) (sym called) (long name some))

  number : function_of p.instances r.place ≡ Some n
  number =
      let place : own.place ≡ r.place = (typed_sound source p (typed_of source p of'.accepted)).roots own.place r.place own.instance d own.there r.there own.root r.root (sym own.name ∙ called ∙ sym r.named) in
      subst (λ i. function_of p.instances i ≡ Some n) place own.of'.function

  params_same : f.params ≡ d.params
  params_same = ap (λ (q : Header). q.signature.params) y.2

  credits_same : f.credits ≡ d.credits
  credits_same = ap (λ (q : Header). q.signature.credits) y.2

  -- what its runs hold of the stack
  mem : (m : Member) × (slice_get of'.accepted.members r.place ≡ Some m)
  mem =
      let within = slice_get_within p.instances r.place d r.there in
      let size = of'.accepted.groups.size in
      (get_or of'.accepted.members r.place no_member, slice_get-get_or of'.accepted.members r.place no_member (omega (arith, within, size)))

  abbrev most : Option Stack
  most = (mem.0).stack

  stack : HasStack c n most
  stack = of'.is.stacks of'.accepted.members of'.accepted.groups r.place n mem.0 number mem.1

  bound_same : held of'.accepted.members r.place ≡ most
  bound_same = ap (option_and_then (λ (m : Member). m.stack)) mem.1

  -- ---- its run

  module _ (input : List ℕ) (room : Room) (vs : Values) (spelt : Spells s.entry input vs) (fits : X.words_of s.entry vs ≤ room.words) where
    abbrev frames : ℕ
    frames = frames_of room.frames most

    spelt_code : SpellsValues c.types (types_of f.params) input vs
    spelt_code =
        subst (λ tb. SpellsValues tb (types_of f.params) input vs) (sym of'.is.types)
        (subst (λ ks. SpellsValues p.types ks input vs) (sym (ap types_of params_same)) spelt)

    first : (t : State) × (loaded c n (first_store vs f.credits) (first_words vs f.credits) frames ≡ Some t)
    first = is_loaded c n f vs frames y.1

    l : IsLoaded p c r.place n vs frames first.0
    l = record {
      instance = d;
      there = r.there;
      is = number;
      typed = input_typed p.types (parameter_types d) (characters input) vs spelt;
      begins = subst (λ ks. loaded c n (first_store vs ks) (first_words vs ks) frames ≡ Some first.0) credits_same first.1;
    }

    kinds : (before : Kinds) × (waits : Kinds) × AreKinds c before waits
    kinds = kinds_found c

    ends : EndsAs c kinds.0 n first.0 room.calls (flat_meaning p r.place vs room.calls frames).answer
    ends = of'.is.means kinds.0 kinds.1 kinds.2 r.place n vs room.calls frames first.0 l

    abbrev its_run : LoadedRun c n vs f.credits room.calls frames
    its_run = record {
      before = kinds.0;
      waits = kinds.1;
      kinds = kinds.2;
      first = first.0;
      begins = first.1;
      end = ends.end;
      last = ends.last;
      left = ends.left;
      steps = ends.steps;
      ends = ends.ends;
    }

    abbrev its_input : InputRun c n input room
    its_input = record {
      function = f;
      there = y.1;
      values = vs;
      spelt = spelt_code;
      fits = (let words = ap (words_for vs) credits_same in omega (arith, fits, words));
      held = most;
      stack = stack;
      run = its_run;
    }

    -- the program means the same with the frames of the run
    meant_same : flat_meaning p r.place vs room.calls frames ≡ X.run_of s vs room
    meant_same =
        means source name p of'.accepted d found vs room.calls frames
        ∙ ap (λ k. meaning (s.entry).core name NoClosed vs room.calls k) (sym (ap (frames_of room.frames) bound_same))

    -- ---- its end

    reported_so : (a : Answer) (e : End) → (X.run_of s vs room).answer ≡ a → ReportsRun (X.running s) vs room.calls (X.frames_for s room) false (X.run_of s vs room).peak a e → Execs source name input room false e
    reported_so a e is t =
        X.Ran s vs e spelt fits (subst (λ b. ReportsRun (X.running s) vs room.calls (X.frames_for s room) false (X.run_of s vs room).peak b e) (sym is) t)

    module _ (us : Values) (left : ℕ) (gives : (X.run_of s vs room).answer ≡ Gives us left) where
      its_words : (ws : List ℕ) × (ends.end ≡ C.Value ws)
      its_words =
          words_given c.types (results c n) ends.last ends.left ends.end us left
          (subst (λ a. IsSameEnd c.types (results c n) ends.last ends.left ends.end a) (ap (λ (q : Run). q.answer) meant_same ∙ gives) ends.same)

      its_trace : IsSourceTrace source name input room (trace_of_run its_run)
      its_trace = record {
        code = code;
        of' = of';
        number = n;
        function = f;
        there = y.1;
        named = called;
        some = some;
        traced = record { by = its_input; words = its_words.0; gives = its_words.1; is = refl };
      }

      abbrev text : List ℕ
      text = printed_lines p.types d.results us ++ if_asked false (gauge_by_trees (X.running s) vs us (X.run_of s vs room).peak)

      traced_end : (e : End) × TracesTo source name input room e
      traced_end = by (long_or_not (trace_of_run its_run))
        where
          by : IsLong (trace_of_run its_run) ⊎ (IsLong (trace_of_run its_run) → ⊥) → (e : End) × TracesTo source name input room e
          by (inl more) = (Err (O.Refused (bare E75)), A.TooLong (trace_of_run its_run) its_trace more)
          by (inr few) = (Ok text, A.Traced text (trace_of_run its_run) (reported_so (Gives us left) (Ok text) gives refl) its_trace few)

    ended : (f : Failure) → Execs source name input room false (Err f) → (e : End) × TracesTo source name input room e
    ended f h = (Err f, A.Ended f h)

    by_answer : (a : Answer) → (X.run_of s vs room).answer ≡ a → (Stuck ≡ a → ⊥) → (e : End) × TracesTo source name input room e
    by_answer (Gives us left) is never = traced_end us left is
    by_answer (Trap kind line col) is never = ended (O.Trap kind line col) (reported_so (Trap kind line col) (Err (O.Trap kind line col)) is refl)
    by_answer Out is never = ended (O.OutOfCalls room.calls) (reported_so Out (Err (O.OutOfCalls room.calls)) is refl)
    by_answer Deep is never = ended (O.OutOfFrames (X.frames_for s room)) (reported_so Deep (Err (O.OutOfFrames (X.frames_for s room))) is refl)
    by_answer Stuck is never = absurd (never refl)

    never_stuck : (a : Answer) → (X.run_of s vs room).answer ≡ a → Stuck ≡ a → ⊥
    never_stuck a is stuck =
        subst (λ b. IsSoundAnswer p.types d.results b) (is ∙ sym stuck)
        (sound source name p of'.accepted d found input vs room.calls (X.frames_for s room) spelt)

    pub fitting_end : (e : End) × TracesTo source name input room e
    fitting_end = by_answer (X.run_of s vs room).answer refl (never_stuck (X.run_of s vs room).answer refl)

  pub some_trace : (input : List ℕ) (room : Room) → (e : End) × TracesTo source name input room e
  some_trace input room = by (text_or_place source name p of'.accepted d found input)
    where
      fitted : (vs : Values) → Spells s.entry input vs → (X.words_of s.entry vs ≤ room.words) ⊎ (room.words < X.words_of s.entry vs) → (e : End) × TracesTo source name input room e
      fitted vs spelt (inl fits) = fitting_end input room vs spelt fits
      fitted vs spelt (inr less) = (Err (O.TooSmall (X.words_of s.entry vs) room.words), A.Ended _ (X.Small s.entry vs spelt less))

      by : ((vs : Values) × Spells s.entry input vs) ⊎ ((at : ℕ) × IsPlace (Spells s.entry) input at) → (e : End) × TracesTo source name input room e
      by (inl (vs, spelt)) = fitted vs spelt (le_or_less (X.words_of s.entry vs) room.words)
      by (inr (at, place)) = (Err (O.BadInput at), A.Ended (O.BadInput at) (X.Misspelt s.entry at place))

-- a root that isn't plain
ruled_in : (o : Option Instance) → IsCompiled o → (d : Instance) × (o ≡ Some d) × (d.kind ≡ Fun → ⊥)
ruled_in None h = absurd h
ruled_in (Some d) h = (d, refl, h)

pub traced : (source name input : List ℕ) (room : Room) (code : PlainCode) → IsReady source (Compiled name) → IsSourceCode source code → (e : End) × TracesTo source name input room e
traced source name input room code ready of' =
    let same = accepted_once source ready.program of'.program ready.accepted of'.accepted in
    let root = ruled_in (root_named name (of'.program).instances) (subst (λ (q : Program). IsCompiled (root_named name q.instances)) same ready.has) in
    some_trace source name code of' root.0 root.1 root.2 input room
