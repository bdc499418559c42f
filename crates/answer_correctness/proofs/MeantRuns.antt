-- What `run` reports of the file of a code is what `exec` reports of the source of which it is the code, by what is
-- required of a code alone.
-- The idea: `run` reports one thing, wherever the cells of the arguments lie; so the run may be that from the state in
-- which they are loaded, which ends as the program means, with its peak; and its cells are counted by trees, as of
-- every sound code.
use Rattle.std.proofs.Common.{◌≡◌, ◌∙◌, ◌<◌, ◌≤◌, ◌+◌, ℕ, Bool, true, List, [], ◌++◌, length, Some, slice_get, refl, sym, ap, subst, arith}
use Rattle.std.specs.Prelude.{Ok, Err}
use Rattle.std.proofs.lemmas.Option.{same_Some}
use Rattle.command_answers.specs.command_library.fip_language.Character.{characters}
use Rattle.command_answers.specs.command_library.fip_language.Meaning.{Answer, Gives, Trap, Out, Deep, Stuck, Peak, Run, meaning}
use Rattle.command_answers.specs.command_library.fip_language.Prefix.{IsPlace}
use Rattle.command_answers.specs.command_library.fip_language.PrintedText.{printed_lines}
use Rattle.command_answers.specs.command_library.fip_language.Statics.{NoClosed}
use Rattle.command_answers.specs.command_library.fip_language.Store.{count}
use Rattle.command_answers.specs.command_library.fip_language.Table.{Table, HaveTypes}
use Rattle.command_answers.specs.command_library.fip_language.Values.{Values, cells_of_all}
use Rattle.command_answers.specs.command_library.fip_language.ValueText.{SpellsValues}
use Rattle.command_answers.specs.command_library.fip_base.declared.plain.Stack.{Stack}
use Rattle.worked_examples.specs.fip_trees.Tree.{Instance, Program}
use Rattle.worked_examples.specs.instance_semantics.Meaning.{flat_meaning}
use Rattle.worked_examples.specs.cell_lower.Shape.{Header, header_of}
use Rattle.worked_examples.specs.cell_code.Plain.{PlainFunction, PlainCode, results_of, results}
use Rattle.worked_examples.specs.lowering_relation.LoweredBodies.{function_of}
use Rattle.worked_examples.specs.lowering_simulation.CellEnds.{EndsAs}
use Rattle.worked_examples.specs.source_report.Report.{IsAccepted}
use Rattle.worked_examples.specs.tree_refinement.Agreement.{AreWordsOf}
use Rattle.worked_examples.specs.tree_refinement.LentValues.{lent_values}
use Rattle.worked_examples.specs.tree_refinement.Runs.{BeginsWith, IsSameEnd}
use Rattle.worked_examples.specs.type_safety.Soundness.{parameter_types}
use Rattle.command_answers.specs.command_library.command_words.Words.{Room}
use Rattle.command_answers.specs.command_library.command_outcome.declared.failure.Failure.TheVariants as O
use Rattle.command_answers.specs.command_library.machine_semantics.Runs as C
use Rattle.command_answers.specs.command_library.machine_semantics.Runs.{End, begun, loaded}
use Rattle.command_answers.specs.command_library.machine_semantics.States.{State}
use Rattle.command_answers.specs.command_library.machine_semantics.Steps.{Kinds}
use Rattle.command_answers.specs.command_library.separation.Codes.{HasLiterals}
use Rattle.command_answers.specs.command_library.separation.Starts.{IsStart}
use Rattle.command_answers.proofs.command_library.separation.KindsFound.{kinds_found}
use Rattle.command_answers.proofs.command_library.separation.Loading.{loaded_is}
use Rattle.command_answers.specs.command_library.run_loading.Loading.{first_store, first_words}
use Rattle.command_answers.proofs.command_library.run_loading.Begins.{begins, is_loaded}
use Rattle.command_answers.specs.command_library.value_text.Loaded.{types_of}
use Rattle.command_answers.proofs.command_library.value_text.Typed.{input_typed}
use Rattle.command_answers.specs.command_library.machine_correctness.Gauges.{IsMeasured}
use Rattle.command_answers.proofs.command_library.command_run.machine_correctness.Entries.{plain_header, IsNamed, named}
use Rattle.command_answers.proofs.command_library.command_run.machine_correctness.code_rules.Numbers.{has_once}
use Rattle.command_answers.proofs.command_library.command_run.machine_correctness.tree_refinement.Cells.{highest_by_trees, lowest_by_trees}
use Rattle.command_answers.proofs.command_library.command_run.machine_correctness.tree_refinement.Overs.{seen_at_end}
use Rattle.command_answers.proofs.command_library.command_run.machine_correctness.specialisation_correctness.Meant.{root_meant}
use Rattle.command_answers.proofs.command_library.command_run.machine_correctness.compiler_correctness.SoundTypes.{typed_sound}
use Rattle.command_answers.specs.command_library.command_source.Codes.{IsSoundFile}
use Rattle.command_answers.specs.command_library.command_eval.EvalAnswer.{Entry}
use Rattle.command_answers.proofs.command_library.command_eval.Meant.{typed_of}
use Rattle.command_answers.specs.command_library.command_run.CodeRun as D
use Rattle.command_answers.specs.command_library.command_run.CodeRun.{Chosen, RunsCode, ReportsCode, all_seen, words_for}
use Rattle.command_answers.specs.command_library.command_run.ExecAnswer.{IsBoundOf}
use Rattle.command_answers.specs.command_library.command_run.GaugeText.{gauge_by_states, highest_stack, if_asked}
use Rattle.command_answers.proofs.command_library.command_run.CodeOnce.{code_run_once, long}
use Rattle.command_answers.proofs.command_library.command_run.Entry.{IsRootAt, root_at}
use Rattle.command_answers.specs.Exec as X
use Rattle.command_answers.specs.Exec.{End as Reported, Start, Execs, Running, ReportsRun, gauge_by_trees, stack_of_peak}
use Rattle.command_answers.proofs.command_library.command_run.source_report.Once.{accepted_once}
use Rattle.command_answers.proofs.ByTrees.{gauge_is}
use Rattle.command_answers.proofs.OneCode.{code_same}
use Rattle.command_answers.proofs.TreesOnce.{trees_once}
use Rattle.command_answers.specs.CodeOf.{IsCodeOf, IsLoaded}
use Rattle.command_answers.proofs.CodeOf.{some_calls}
use Rattle.command_answers.proofs.FileTexts.{literals}

-- an end, reported by the code and by trees
reported_both : (r : Running) (vs : Values) (calls frames : ℕ) (gauge : Bool) (peak : Peak) (following : List ℕ) (last : State) (left : ℕ) (end : End) (a : Answer) → ((us : Values) (k : ℕ) (ws : List ℕ) → a ≡ Gives us k → end ≡ C.Value ws → AreWordsOf r.types last.store (r.instance).results ws us → following ≡ if_asked gauge (gauge_by_trees r vs us peak)) → IsSameEnd r.types (r.instance).results last left end a → (e : Reported) × ReportsCode r.types (r.instance).results calls frames following last end e × ReportsRun r vs calls frames gauge peak a e
reported_both r vs calls frames gauge peak following last left (C.Value ws) (Gives us k) same h =
    (Ok (printed_lines r.types (r.instance).results us ++ following), (us, h.0, refl), ap (λ text. Ok (printed_lines r.types (r.instance).results us ++ text)) (same us k ws refl refl h.0))
reported_both r vs calls frames gauge peak following last left (C.Value ws) (Trap kind line col) same h = absurd h
reported_both r vs calls frames gauge peak following last left (C.Value ws) Out same h = absurd h
reported_both r vs calls frames gauge peak following last left (C.Value ws) Deep same h = absurd h
reported_both r vs calls frames gauge peak following last left (C.Value ws) Stuck same h = absurd h
reported_both r vs calls frames gauge peak following last left (C.Trap kind line col) (Gives us k) same h = absurd h
reported_both r vs calls frames gauge peak following last left (C.Trap kind line col) (Trap other row at) same h = (Err (O.Trap kind line col), refl, λ i. Err (O.Trap (h.0 i) (h.1 i) (h.2 i)))
reported_both r vs calls frames gauge peak following last left (C.Trap kind line col) Out same h = absurd h
reported_both r vs calls frames gauge peak following last left (C.Trap kind line col) Deep same h = absurd h
reported_both r vs calls frames gauge peak following last left (C.Trap kind line col) Stuck same h = absurd h
reported_both r vs calls frames gauge peak following last left C.Out (Gives us k) same h = absurd h
reported_both r vs calls frames gauge peak following last left C.Out (Trap kind line col) same h = absurd h
reported_both r vs calls frames gauge peak following last left C.Out Out same h = (Err (O.OutOfCalls calls), refl, refl)
reported_both r vs calls frames gauge peak following last left C.Out Deep same h = absurd h
reported_both r vs calls frames gauge peak following last left C.Out Stuck same h = absurd h
reported_both r vs calls frames gauge peak following last left C.Deep (Gives us k) same h = absurd h
reported_both r vs calls frames gauge peak following last left C.Deep (Trap kind line col) same h = absurd h
reported_both r vs calls frames gauge peak following last left C.Deep Out same h = absurd h
reported_both r vs calls frames gauge peak following last left C.Deep Deep same h = (Err (O.OutOfFrames frames), refl, refl)
reported_both r vs calls frames gauge peak following last left C.Deep Stuck same h = absurd h
reported_both r vs calls frames gauge peak following last left C.Unsound (Gives us k) same h = absurd h
reported_both r vs calls frames gauge peak following last left C.Unsound (Trap kind line col) same h = absurd h
reported_both r vs calls frames gauge peak following last left C.Unsound Out same h = absurd h
reported_both r vs calls frames gauge peak following last left C.Unsound Deep same h = absurd h
reported_both r vs calls frames gauge peak following last left C.Unsound Stuck same h = absurd h

module _ (source name bytes : List ℕ) (y : Entry source name) (x : Chosen bytes name) (h : IsCodeOf y.program x.code) where
  abbrev c : PlainCode
  c = x.code

  abbrev p : Program
  p = y.program

  abbrev d : Instance
  d = y.root

  -- the function is that of the entry's root
  xn : IsNamed p c x.number x.function
  xn = named p h.members c x.number x.function h.types h.functions x.there (subst (λ n. 0 < length n) (sym x.named) (long name x.some))

  root : IsRootAt name p.instances d
  root = root_at name p.instances d y.named

  place_of : (i : ℕ) (e : Instance) → slice_get p.instances i ≡ Some e → e.root ≡ true → e.name ≡ name → xn.place ≡ i
  place_of i e at is called =
      (typed_sound source p (typed_of source p y.accepted)).roots xn.place i xn.instance e xn.there at xn.root is (sym xn.name ∙ x.named ∙ sym called)

  instance_same : xn.instance ≡ d
  instance_same = same_Some xn.instance d (sym xn.there ∙ ap (slice_get p.instances) (place_of root.place d root.there root.root root.named) ∙ root.there)

  header_same : plain_header x.function ≡ header_of xn.registers d
  header_same = xn.headed ∙ ap (header_of xn.registers) instance_same

  params_same : (x.function).params ≡ d.params
  params_same = ap (λ (q : Header). q.signature.params) header_same

  credits_same : (x.function).credits ≡ d.credits
  credits_same = ap (λ (q : Header). q.signature.credits) header_same

  results_same : (x.function).results ≡ d.results
  results_same = ap (λ (q : Header). q.signature.results) header_same

  number : (i : ℕ) → slice_get p.instances i ≡ Some d → function_of p.instances i ≡ Some x.number
  number i at = subst (λ j. function_of p.instances j ≡ Some x.number) (place_of i d at root.root root.named) xn.of'.function

  bound : IsBoundOf y x.held
  bound ms found i m at there = has_once c x.number x.held m.stack x.stack (h.stacks ms found i x.number m (number i at) there)

  abbrev start_of : Start source name
  start_of = record { entry = y; members = h.members; found = h.found; bound = x.held; reported = bound }

  abbrev of_root : Running
  of_root = X.running start_of

  -- the types of its parameters
  pub spells_same : (A : Table → List ℕ → Type 0) → A (x.code).types (types_of (x.function).params) → A p.types (parameter_types d)
  spells_same A k = subst (A p.types) (ap types_of params_same) (subst (λ tb. A tb (types_of (x.function).params)) h.types k)

  pub words_same : (vs : Values) → words_for vs (x.function).credits ≡ X.words_of y vs
  words_same vs = ap (words_for vs) credits_same

  module _ (input : List ℕ) (room : Room) (gauge : Bool) (vs : Values) (spelt : D.SpellsFor x input vs) where
    abbrev frames : ℕ
    frames = D.frames_for x room

    abbrev n : ℕ
    n = x.number

    abbrev before : Kinds
    before = (kinds_found c).0

    written : HasLiterals c
    written = literals bytes x.code (x.file).spelt

    typed : HaveTypes c.types (types_of (x.function).params) vs
    typed = input_typed c.types (types_of (x.function).params) (characters input) vs spelt

    abbrev first : State
    first = (is_loaded c n x.function vs frames x.there).0

    starts : IsStart c before (kinds_found c).1 n [] first × BeginsWith c n first vs
    starts = begins c before (kinds_found c).1 n x.function vs frames first h.sound written (kinds_found c).2 x.there typed (is_loaded c n x.function vs frames x.there).1

    l : IsLoaded p c root.place n vs frames first
    l = record {
      instance = d;
      there = root.there;
      is = number root.place root.there;
      typed = spells_same (λ tb ks. HaveTypes tb ks vs) typed;
      begins = subst (λ ks. loaded c n (first_store vs ks) (first_words vs ks) frames ≡ Some first) credits_same (is_loaded c n x.function vs frames x.there).1;
    }

    abbrev meant : Run
    meant = flat_meaning p root.place vs room.calls frames

    ends : EndsAs c before n first room.calls (flat_meaning p root.place vs room.calls frames).answer
    ends = h.means before (kinds_found c).1 (kinds_found c).2 root.place n vs room.calls frames first l

    abbrev run : D.RunOf x vs room
    run = record {
      before = before;
      waits = (kinds_found c).1;
      first = first;
      starts = starts.0;
      arguments = starts.1;
      free = ap (λ (s : State). s.free) (loaded_is c n x.function (first_store vs (x.function).credits) (first_words vs (x.function).credits) frames first x.there (is_loaded c n x.function vs frames x.there).1);
      end = ends.end;
      last = ends.last;
      left = ends.left;
      steps = ends.steps;
      ends = ends.ends;
    }

    function_same : (starts.0).function ≡ x.function
    function_same = same_Some (starts.0).function x.function (sym (starts.0).is ∙ x.there)

    same_end : IsSameEnd p.types d.results ends.last ends.left ends.end meant.answer
    same_end =
        subst (λ tb. IsSameEnd tb d.results ends.last ends.left ends.end meant.answer) h.types
        (subst (λ ts. IsSameEnd c.types ts ends.last ends.left ends.end meant.answer) (ap results_of x.there ∙ results_same) ends.same)

    measured : (us : Values) (ws : List ℕ) → ends.end ≡ C.Value ws → AreWordsOf c.types (ends.last).store (results c n) ws us → IsMeasured vs us d.params d.credits meant.peak (all_seen run)
    measured us ws is are =
        let words : C.Ends before c first room.calls (C.Value ws) ends.last ends.left ends.steps = subst (λ e. C.Ends before c first room.calls e ends.last ends.left ends.steps) is ends.ends in
        let enough = words.enough in
        let at_end = seen_at_end before c first room.calls (C.Value ws) ends.last ends.left ends.steps words in
        let own = seen_at_end before c first room.calls ends.end ends.last ends.left ends.steps ends.ends in
        let all = sym at_end ∙ own in
        let stack = h.peaks before (kinds_found c).1 (kinds_found c).2 root.place n vs room.calls frames first l (some_calls before c first room.calls ws ends.last ends.left ends.steps words) (C.Value ws) ends.last ends.left ends.steps words in
        subst (λ ss. IsMeasured vs us d.params d.credits meant.peak ss) all
        (record {
          lowest = λ size one. lowest_by_trees c before (kinds_found c).1 n first vs us room.calls size ws ends.last ends.left ends.steps starts.0 starts.1 one words are
              ∙ ap (λ (g : PlainFunction). cells_of_all size us + cells_of_all size (lent_values g.params vs)) function_same
              ∙ ap (λ ps. cells_of_all size us + cells_of_all size (lent_values ps vs)) params_same;
          highest = λ size one. highest_by_trees c before (kinds_found c).1 n first vs room.calls enough size starts.0 starts.1 one
              ∙ ap (λ (g : PlainFunction). cells_of_all size vs + count size g.credits) function_same
              ∙ ap (λ ks. cells_of_all size vs + count size ks) credits_same;
          frames = ap (λ (s : Stack). s.frames) (sym (ap highest_stack at_end) ∙ stack);
          words = ap (λ (s : Stack). s.words) (sym (ap highest_stack at_end) ∙ stack);
        })

    -- by the source
    meant_same : flat_meaning p root.place vs room.calls frames ≡ meaning y.core name NoClosed vs room.calls frames
    meant_same =
        root_meant source p (typed_of source p y.accepted) y.core y.parsed root.place d vs room.calls frames root.there root.root
        ∙ ap (λ m. meaning y.core m NoClosed vs room.calls frames) root.named

    abbrev lines : List ℕ
    lines = if_asked gauge (gauge_by_states (all_seen run) x.held)

    both : (e : Reported) × ReportsCode p.types d.results room.calls frames lines ends.last ends.end e × ReportsRun of_root vs room.calls frames gauge meant.peak meant.answer e
    both =
        reported_both of_root vs room.calls frames gauge meant.peak lines ends.last ends.left ends.end meant.answer
        (λ us k ws gives is are. ap (if_asked gauge) (gauge_is of_root vs us meant.peak (all_seen run) (measured us ws is
        (subst (λ tb. AreWordsOf tb (ends.last).store (results c n) ws us) (sym h.types)
        (subst (λ ts. AreWordsOf p.types (ends.last).store ts ws us) (sym (ap results_of x.there ∙ results_same)) are)))))
        same_end

    -- one thing is reported of the file and of the source
    pub ran : words_for vs (x.function).credits ≤ room.words → (e : Reported) × RunsCode bytes name input room gauge e × Execs source name input room gauge e
    ran fits =
        let e = both.0 in
        let reported : D.ReportsOf x vs room run gauge e =
        subst (λ tb. ReportsCode tb (x.function).results room.calls frames lines ends.last ends.end e) (sym h.types)
        (subst (λ ts. ReportsCode p.types ts room.calls frames lines ends.last ends.end e) (sym results_same) both.1) in
        let by_source : X.ReportsAll of_root vs room.calls frames gauge (meaning y.core name NoClosed vs room.calls frames) e = subst (λ (m : Run). X.ReportsAll of_root vs room.calls frames gauge m e) meant_same both.2 in
        let words = words_same vs in
        (e, D.Ran x vs run e spelt fits reported, X.Ran start_of vs e (spells_same (λ tb ks. SpellsValues tb ks input vs) spelt) (omega (arith, fits, words)) by_source)

-- a source is run by one entry of the name
entry_in : (source name input : List ℕ) (room : Room) (gauge : Bool) (d : Reported) → Execs source name input room gauge d → Entry source name
entry_in source name input room gauge d (X.Misspelt y at place) = y
entry_in source name input room gauge d (X.Small y vs spelt less) = y
entry_in source name input room gauge d (X.Ran s vs e spelt fits reported) = s.entry

module _ (source name bytes input : List ℕ) (room : Room) (gauge : Bool) (y : Entry source name) (code : PlainCode) (h : IsCodeOf y.program code) (file : IsSoundFile bytes code) where
  code_in : (z : Chosen bytes name) → IsCodeOf y.program z.code
  code_in z = subst (IsCodeOf y.program) (code_same bytes code z.code file.spelt (z.file).spelt) h

  reported_once : (d e : Reported) → Execs source name input room gauge d → RunsCode bytes name input room gauge e → d ≡ e
  reported_once d _ k (D.Misspelt z at place) =
      trees_once source name input room gauge d (Err (O.BadInput at)) k
      (X.Misspelt y at (spells_same source name bytes y z (code_in z) (λ tb ks. IsPlace (SpellsValues tb ks) input at) place))
  reported_once d _ k (D.Small z vs spelt less) =
      let words = words_same source name bytes y z (code_in z) vs in
      trees_once source name input room gauge d (Err (O.TooSmall (X.words_of y vs) room.words)) k
      (X.Small y vs (spells_same source name bytes y z (code_in z) (λ tb ks. SpellsValues tb ks input vs) spelt) (omega (arith, less, words)))
      ∙ ap (λ n. Err (O.TooSmall n room.words)) (sym words)
  reported_once d e k (D.Ran z vs r _ spelt fits reported) =
      let b = ran source name bytes y z (code_in z) input room gauge vs spelt fits in
      trees_once source name input room gauge d b.0 k b.2 ∙ code_run_once bytes name input room gauge b.0 e b.1 (D.Ran z vs r e spelt fits reported)

pub runs_as_its_source : (source bytes name input : List ℕ) (room : Room) (gauge : Bool) (p : Program) (code : PlainCode) (d e : Reported) → IsAccepted source p → IsCodeOf p code → IsSoundFile bytes code → Execs source name input room gauge d → RunsCode bytes name input room gauge e → d ≡ e
runs_as_its_source source bytes name input room gauge p code d e accepted h file k r =
    let y = entry_in source name input room gauge d k in
    reported_once source name bytes input room gauge y code (subst (λ (q : Program). IsCodeOf q code) (accepted_once source p y.program accepted y.accepted) h) file d e k r
