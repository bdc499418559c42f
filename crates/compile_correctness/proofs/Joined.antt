-- A run of a code of a source is reported as `exec` reports it.
-- Idea: a run reaches one end, and that of the code's function of a root's name is what the source means by this; what
-- is seen of its states is measured by the evaluation. So the run of a file's code is one of those of which `exec`
-- speaks, and `exec` ends in one thing.
use Rattle.std.proofs.Common.{◌≡◌, ◌≢◌, ◌∙◌, ◌<◌, ◌≤◌, ℕ, true, Bool, List, [], ◌∷◌, ◌++◌, length, Option, Some, None, slice_get, refl, sym, ap, ap₂, subst, arith}
use Rattle.std.specs.Prelude.{Result, Ok, Err}
use Rattle.command_run.specs.cell_lower.fip_language.declared.FunKind.TheVariants.{Fip}
use Rattle.command_run.specs.cell_lower.fip_language.Meaning.{Answer, Gives, Trap, Out, Deep, Stuck, meaning}
use Rattle.command_run.specs.cell_lower.fip_language.Meaning as M
use Rattle.command_run.specs.cell_lower.fip_language.Prefix.{IsPlace}
use Rattle.command_run.specs.cell_lower.fip_language.PrintedText.{printed_lines}
use Rattle.command_run.specs.cell_lower.fip_language.Statics.{NoClosed}
use Rattle.command_run.specs.cell_lower.fip_language.Table.{Table}
use Rattle.command_run.specs.cell_lower.fip_language.Values.{Values}
use Rattle.command_run.specs.cell_lower.fip_language.ValueText.{SpellsValues}
use Rattle.command_run.specs.cell_lower.fip_base.declared.plain.Param.{Param}
use Rattle.command_run.specs.cell_lower.fip_base.declared.plain.Stack.{Stack}
use Rattle.command_run.specs.fip_trees.declared.groups.Member.{Member}
use Rattle.command_run.specs.fip_trees.Tree.{Instance, Program}
use Rattle.command_run.specs.tail_groups.Members.{AreMembers}
use Rattle.command_words.specs.Words.{Room}
use Rattle.command_run.specs.session_semantics.command_outcome.declared.failure.Failure.{Failure}
use Rattle.command_run.specs.session_semantics.command_outcome.declared.failure.Failure.TheVariants as F
use Rattle.command_run.proofs.machine_correctness.separation_bounds.Ending.{ends_once}
use Rattle.command_run.specs.lowering_relation.machine_semantics.Runs as C
use Rattle.command_run.specs.lowering_relation.machine_semantics.Runs.{End, Over}
use Rattle.command_run.specs.lowering_relation.machine_semantics.States.{State}
use Rattle.command_run.specs.lowering_relation.LoweredBodies.{function_of}
use Rattle.command_run.specs.cell_lower.cell_code.Plain.{PlainFunction, PlainCode, function_at, results_of, results}
use Rattle.command_run.specs.code_rules.Codes.{is_fip, code_kind}
use Rattle.command_run.specs.code_rules.StackNumbers.{HasStack}
use Rattle.command_run.proofs.machine_correctness.code_rules.Numbers.{has_once}
use Rattle.command_run.specs.machine_correctness.tree_refinement.Agreement.{AreWordsOf}
use Rattle.command_run.specs.machine_correctness.tree_refinement.Runs.{IsSameEnd}
use Rattle.command_run.specs.session_semantics.Talk.{frames_of}
use Rattle.command_run.specs.command_eval.type_safety.Soundness.{parameter_types}
use Rattle.command_run.specs.value_text.Loaded.{types_of}
use Rattle.command_run.specs.command_source.ProgramCode.{IsCompiledFile}
use Rattle.command_run.specs.command_eval.EvalAnswer.{Entry, Spells}
use Rattle.command_run.specs.machine_correctness.Gauges.{IsMeasured}
use Rattle.command_run.proofs.machine_correctness.EvaluatedEnds.{ends_as, meant_not_deep}
use Rattle.command_run.proofs.machine_correctness.Flat.{runs_flat}
use Rattle.command_run.proofs.machine_correctness.Made.{IsMadeOf}
use Rattle.command_run.proofs.machine_correctness.Peaks.{made_measured}
use Rattle.command_run.specs.CodeRun as D
use Rattle.command_run.specs.CodeRun.{RunsCode, ReportsCode, all_seen, words_for}
use Rattle.command_run.specs.ExecAnswer.{ReportsRun, Coded, IsBoundOf, RunsInPlace, RunsOn, Execs, Misspelt, Small, Ran, answer_of, frames_for, words_of}
use Rattle.command_run.specs.GaugeText.{gauge_by_states, if_asked}
use Rattle.command_run.proofs.CodeOnce.{long, results_once}
use Rattle.command_run.proofs.Entry.{root_at}
use Rattle.command_run.proofs.ExecOnce.{exec_once}
use Rattle.compile_correctness.proofs.Files.{compiled_code}
use Rattle.compile_correctness.proofs.Rooted.{IsHeadedBy, headed_by, instance_named, place_same, program_same}
use Rattle.compile_correctness.proofs.Views.{made}

-- ---- the end of a run

-- the same end
end_is : (tb : Table) (types : List ℕ) (end other : End) (l m : State) (left k steps j : ℕ) (a : Answer) → Over end l left steps ≡ Over other m k j → IsSameEnd tb types l left end a → IsSameEnd tb types m k other a
end_is tb types end other l m left k steps j a is h =
    let ends : end ≡ other = cc in
    let lasts : l ≡ m = cc in
    let lefts : left ≡ k = cc in
    subst (λ x. IsSameEnd tb types m k x a) ends
    (subst (λ (u : State). IsSameEnd tb types u k end a) lasts
    (subst (λ n. IsSameEnd tb types l n end a) lefts h))

-- what the code's run is reported as is what the meaning is reported as
reported_as : (tb : Table) (types : List ℕ) (calls frames : ℕ) (following : List ℕ) (l : State) (left : ℕ) (end : End) (a : Answer) (e : Result (List ℕ) Failure) → IsSameEnd tb types l left end a → ReportsCode tb types calls frames following l end e → ReportsRun tb types calls frames (λ _. following) a e
reported_as tb types calls frames following l left (C.Value ws) (Gives vs k) e same reported =
    let one : reported.0 ≡ vs = results_once tb l.store types ws reported.0 vs reported.1 same.0 in
    reported.2 ∙ ap (λ us. Ok (printed_lines tb types us ++ following)) one
reported_as tb types calls frames following l left (C.Value ws) (Trap kind line col) e same reported = absurd same
reported_as tb types calls frames following l left (C.Value ws) Out e same reported = absurd same
reported_as tb types calls frames following l left (C.Value ws) Deep e same reported = absurd same
reported_as tb types calls frames following l left (C.Value ws) Stuck e same reported = absurd same
reported_as tb types calls frames following l left (C.Trap kind line col) (Gives vs k) e same reported = absurd same
reported_as tb types calls frames following l left (C.Trap kind line col) (Trap other row at) e same reported =
    reported ∙ (λ i. Err (F.Trap (same.0 i) (same.1 i) (same.2 i)))
reported_as tb types calls frames following l left (C.Trap kind line col) Out e same reported = absurd same
reported_as tb types calls frames following l left (C.Trap kind line col) Deep e same reported = absurd same
reported_as tb types calls frames following l left (C.Trap kind line col) Stuck e same reported = absurd same
reported_as tb types calls frames following l left C.Out (Gives vs k) e same reported = absurd same
reported_as tb types calls frames following l left C.Out (Trap kind line col) e same reported = absurd same
reported_as tb types calls frames following l left C.Out Out e same reported = reported
reported_as tb types calls frames following l left C.Out Deep e same reported = absurd same
reported_as tb types calls frames following l left C.Out Stuck e same reported = absurd same
reported_as tb types calls frames following l left C.Deep (Gives vs k) e same reported = absurd same
reported_as tb types calls frames following l left C.Deep (Trap kind line col) e same reported = absurd same
reported_as tb types calls frames following l left C.Deep Out e same reported = absurd same
reported_as tb types calls frames following l left C.Deep Deep e same reported = reported
reported_as tb types calls frames following l left C.Deep Stuck e same reported = absurd same
reported_as tb types calls frames following l left C.Unsound a e same reported = absurd reported

-- ---- in place

flat_in_place : (c : PlainCode) (n : ℕ) (f : PlainFunction) (vs : Values) (calls frames : ℕ) (r : D.Run c n vs calls frames) → function_at c n ≡ Some f → is_fip f.kind ≡ true → (held : Option Stack) → HasStack c n held → RunsInPlace vs f.credits (all_seen r) held
flat_in_place c n f vs calls frames r is fip None stack = absurd (stack (f, is, fip))
flat_in_place c n f vs calls frames r is fip (Some k) stack =
    let flat = runs_flat c r.before r.waits n f vs r.first calls (r.ends).enough k r.starts r.arguments is fip stack.1 in
    record {
      lowest = λ size one few. flat.lowest size;
      highest = λ size one few. flat.highest size;
      within = (flat.frames, flat.words);
    }

-- ---- the run of a code's function

module _ (source name : List ℕ) (entry : Entry source name) (k : Coded source name) where
  abbrev c : PlainCode
  c = k.code

  abbrev f : PlainFunction
  f = k.function

  abbrev h : IsMadeOf source entry.core c
  h = made source entry.core k.code entry.parsed k.of'

  some_name : 0 < length (k.function).name
  some_name = subst (λ x. 0 < length x) (sym k.named) (long name k.some)

  header : IsHeadedBy source name k.code k.of' k.number k.function k.there k.named k.some entry.root
  header = headed_by source name k.code k.of' k.number k.function k.there k.named k.some entry

  types_same : (k.code).types ≡ entry.program.types
  types_same = (k.of').lowered.types ∙ ap (λ (p : Program). p.types) (program_same source name k.code k.of' k.number k.function k.there k.named k.some entry.program entry.accepted)

  -- what its runs hold of the stack is what the groups report of the root
  bound_is : IsBoundOf entry k.held
  bound_is ms found i m at there =
      let x = instance_named source name k.code k.of' k.number k.function k.there k.named k.some in
      let p = program_same source name k.code k.of' k.number k.function k.there k.named k.some entry.program entry.accepted in
      let root = root_at name entry.program.instances entry.root entry.named in
      let one : x.place ≡ i = place_same source name k.code k.of' k.number k.function k.there k.named k.some entry.program entry.accepted i entry.root at root.root root.named in
      let number : function_of (k.of').program.instances i ≡ Some k.number = subst (λ j. function_of (k.of').program.instances j ≡ Some k.number) one x.of'.function in
      let members : AreMembers (k.of').program.instances ms = subst (λ (q : Program). AreMembers q.instances ms) (sym p) found in
      has_once k.code k.number k.held m.stack k.stack ((k.of').lowered.stacks ms members i k.number m number there)

  module _ (vs : Values) (room : Room) (r : D.Run k.code k.number vs room.calls (frames_for k room)) where
    -- the meaning, by the function's name and the first state's frames
    abbrev meant : M.Run
    meant = meaning entry.core (k.function).name NoClosed vs room.calls (r.first).free

    meant_is : meaning entry.core (k.function).name NoClosed vs room.calls (r.first).free ≡ meaning entry.core name NoClosed vs room.calls (frames_for k room)
    meant_is = ap₂ (λ n d. meaning entry.core n NoClosed vs room.calls d) k.named r.free

    same_end : IsSameEnd (k.code).types (k.function).results r.last r.left r.end (meaning entry.core (k.function).name NoClosed vs room.calls (r.first).free).answer
    same_end =
        let m = ends_as source entry.core c r.before r.waits k.number k.function vs r.first room.calls h r.starts r.arguments k.there some_name in
        let once = ends_once c r.before r.waits r.before r.waits k.number [] r.first room.calls m.end r.end m.last r.last m.left r.left m.steps r.steps r.starts (r.starts).kinds m.ends r.ends in
        subst (λ ts. IsSameEnd (k.code).types ts r.last r.left r.end meant.answer) (ap results_of k.there)
        (end_is (k.code).types (results c k.number) m.end r.end m.last r.last m.left r.left m.steps r.steps meant.answer once m.same)

    reported_is : (following : List ℕ) (e : Result (List ℕ) Failure) → ReportsCode (k.code).types (k.function).results room.calls (frames_for k room) following r.last r.end e → ReportsRun entry.program.types (entry.root).results room.calls (frames_for k room) (λ _. following) (answer_of entry vs room.calls (frames_for k room)) e
    reported_is following e reported =
        subst (λ (y : M.Run). ReportsRun entry.program.types (entry.root).results room.calls (frames_for k room) (λ _. following) y.answer e) meant_is
        (subst (λ ts. ReportsRun entry.program.types ts room.calls (frames_for k room) (λ _. following) meant.answer e) header.results
        (subst (λ tb. ReportsRun tb (k.function).results room.calls (frames_for k room) (λ _. following) meant.answer e) types_same
        (reported_as (k.code).types (k.function).results room.calls (frames_for k room) following r.last r.left r.end meant.answer e same_end reported)))

    measured_is : (us : Values) (left : ℕ) → answer_of entry vs room.calls (frames_for k room) ≡ Gives us left → IsMeasured vs us (entry.root).params (entry.root).credits (meaning entry.core name NoClosed vs room.calls (frames_for k room)).peak (all_seen r)
    measured_is us left gives =
        let own : meant.answer ≡ Gives us left = ap (λ (y : M.Run). y.answer) meant_is ∙ gives in
        subst (λ (y : M.Run). IsMeasured vs us (entry.root).params (entry.root).credits y.peak (all_seen r)) meant_is
        (subst (λ ps. IsMeasured vs us ps (entry.root).credits meant.peak (all_seen r)) header.params
        (subst (λ ks. IsMeasured vs us (k.function).params ks meant.peak (all_seen r)) header.credits
        (made_measured source entry.core c r.before r.waits k.number k.function vs us r.first room.calls left r.end r.last r.left r.steps h (k.of').lowered.found r.starts r.arguments k.there some_name own r.ends)))

    in_place_is : (entry.root).kind ≡ Fip → RunsInPlace vs (entry.root).credits (all_seen r) k.held
    in_place_is e =
        subst (λ ks. RunsInPlace vs ks (all_seen r) k.held) header.credits
        (flat_in_place c k.number k.function vs room.calls (frames_for k room) r k.there (ap is_fip (header.kind ∙ ap code_kind e)) k.held k.stack)

    deep_by : (held : Option Stack) → HasStack c k.number held → (r.first).free ≡ frames_of room.frames held → is_fip (k.function).kind ≡ true → meant.answer ≢ Deep
    deep_by None stack free fip = absurd (stack (k.function, k.there, fip))
    deep_by (Some s) stack free fip =
        meant_not_deep source entry.core c r.before r.waits k.number k.function vs r.first room.calls s h r.starts r.arguments k.there some_name fip stack.1 (omega (arith, free))

    never_deep_is : (entry.root).kind ≡ Fip → answer_of entry vs room.calls (frames_for k room) ≢ Deep
    never_deep_is e =
        subst (λ (y : M.Run). y.answer ≢ Deep) meant_is (deep_by k.held k.stack r.free (ap is_fip (header.kind ∙ ap code_kind e)))

    pub runs_on : (gauge : Bool) (e : Result (List ℕ) Failure) → ReportsCode (k.code).types (k.function).results room.calls (frames_for k room) (if_asked gauge (gauge_by_states (all_seen r) k.held)) r.last r.end e → RunsOn entry vs room gauge e
    runs_on gauge e reported = record {
      code = k;
      run = r;
      reported = reported_is (if_asked gauge (gauge_by_states (all_seen r) k.held)) e reported;
      measured = measured_is;
      bound = bound_is;
      in_place = in_place_is;
      never_deep = never_deep_is;
    }

  -- the function's types are the root's
  pub spells_same : (P : Table → List ℕ → Type 0) → P (k.code).types (types_of (k.function).params) → P entry.program.types (parameter_types entry.root)
  spells_same P x =
      subst (P entry.program.types) (ap types_of header.params)
      (subst (λ tb. P tb (types_of (k.function).params)) types_same x)

  pub words_same : (vs : Values) → words_for vs (k.function).credits ≡ words_of entry vs
  words_same vs = ap (words_for vs) header.credits

-- ---- the run of a file

module _ (source file name input : List ℕ) (room : Room) (gauge : Bool) (h : IsCompiledFile source file) (entry : Entry source name) where
  abbrev coded : D.Chosen file name → Coded source name
  coded x = record {
    code = x.code;
    of' = compiled_code source file x.code h x.file;
    number = x.number;
    function = x.function;
    there = x.there;
    named = x.named;
    some = x.some;
    held = x.held;
    stack = x.stack;
  }

  pub executes : (e : Result (List ℕ) Failure) → RunsCode file name input room gauge e → Execs source name input room gauge e
  executes _ (D.Misspelt x at place) =
      Misspelt entry at (spells_same source name entry (coded x) (λ tb ks. IsPlace (SpellsValues tb ks) input at) place)
  executes _ (D.Small x vs spelt less) =
      let words = words_same source name entry (coded x) vs in
      subst (λ n. Execs source name input room gauge (Err (F.TooSmall n room.words))) (sym words)
      (Small entry vs (spells_same source name entry (coded x) (λ tb ks. SpellsValues tb ks input vs) spelt) (omega (arith, less, words)))
  executes e (D.Ran x vs r _ spelt fits reported) =
      let words = words_same source name entry (coded x) vs in
      Ran entry vs e (spells_same source name entry (coded x) (λ tb ks. SpellsValues tb ks input vs) spelt) (omega (arith, fits, words))
      (runs_on source name entry (coded x) vs room r gauge e reported)

entry_in : (source name input : List ℕ) (room : Room) (gauge : Bool) (d : Result (List ℕ) Failure) → Execs source name input room gauge d → Entry source name
entry_in source name input room gauge _ (Misspelt entry at place) = entry
entry_in source name input room gauge _ (Small entry vs spelt less) = entry
entry_in source name input room gauge d (Ran entry vs _ spelt fits runs) = entry

pub runs_as_its_source : (source file name input : List ℕ) (room : Room) (gauge : Bool) (d e : Result (List ℕ) Failure) → IsCompiledFile source file → Execs source name input room gauge d → RunsCode file name input room gauge e → d ≡ e
runs_as_its_source source file name input room gauge d e h x y =
    exec_once source name input room gauge d e x (executes source file name input room gauge h (entry_in source name input room gauge d x) e y)
