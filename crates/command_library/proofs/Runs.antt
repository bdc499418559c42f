-- From a machine's run to what `gen` ends in.
use Rattle.std.proofs.Common.{◌≡◌, ◌≢◌, ◌∙◌, ◌≤◌, ◌<◌, ℕ, true, false, List, [], ◌++◌, length, Option, Some, None, option_map, refl, sym, ap, subst}
use Rattle.std.specs.Prelude.{Result, Ok, Err, IfSome}
use Rattle.std.specs.declared.vec.Vec.{Vec}
use Rattle.std.specs.declared.alloc.Global.{Global}
use Rattle.std.proofs.lemmas.Option.{none-some, same_Some, slice_get-map}
use Rattle.fip_language.specs.Meaning.{Answer, Gives, Trap, Out, Deep, Stuck, meaning}
use Rattle.fip_language.specs.PrintedText.{printed_lines}
use Rattle.fip_language.specs.Statics.{NoClosed}
use Rattle.fip_language.specs.Table.{Table}
use Rattle.fip_language.specs.Values.{Values}
use Rattle.fip_language.specs.ValueText.{SpellsValues}
use Rattle.fip_language.specs.declared.limits.TheConstants.{MOST_FILE_BYTES}
use Rattle.task_semantics.specs.machine_semantics.Cells.{Store}
use Rattle.task_semantics.specs.machine_semantics.States.{State}
use Rattle.command_tasks.specs.command_run.separation.Codes.{HasLiterals}
use Rattle.cell_store.specs.Made.{Stored}
use Rattle.command_words.specs.Words.{Room}
use Rattle.command_outcome.specs.declared.failure.Failure.{Failure}
use Rattle.command_outcome.specs.declared.failure.Failure.TheVariants as F
use Rattle.fip_machine.specs.declared.gauge.Gauge.{Gauge}
use Rattle.fip_machine.specs.declared.machine.Ended.{Ended}
use Rattle.fip_machine.specs.declared.machine.Ended.TheVariants as M
use Rattle.fip_machine.specs.Machines.{Seen}
use Rattle.fip_machine.specs.Tasks.{state_with}
use Rattle.fip_machine.specs.cell_code.Plain.{PlainFunction, plain_function, plain, function_at}
use Rattle.command_tasks.specs.command_run.session_semantics.Talk.{frames_of}
use Rattle.command_tasks.specs.command_run.command_source.Entries.{Chosen}
use Rattle.command_tasks.specs.command_run.command_source.ProgramCode.{IsEntryOf}
use Rattle.command_tasks.specs.command_run.command_source.Wanted.{Compiled, Refuses, IsReady, KeepsFrom}
use Rattle.command_tasks.specs.command_run.value_text.Loaded.{types_of}
use Rattle.command_tasks.specs.command_run.command_eval.EvalAnswer.{Entry, Spells, OrNoMemory}
use Rattle.command_tasks.proofs.command_run.command_eval.Once.{one_text}
use Rattle.command_tasks.specs.command_run.machine_correctness.Meant.{IsMeant, ArePrintable}
use Rattle.command_tasks.specs.command_run.machine_correctness.Starts.{Begins}
use Rattle.command_tasks.proofs.command_run.machine_correctness.EvaluatedEnds.{answers_as_meant}
use Rattle.command_tasks.proofs.command_run.machine_correctness.Texts.{printable}
use Rattle.command_tasks.specs.command_run.CodeRun.{is_run_failure}
use Rattle.command_tasks.specs.command_run.ExecAnswer.{Execs, Misspelt, Small, Ran, RunsOn, ReportsRun, answer_of, frames_for, words_of}
use Rattle.command_tasks.specs.command_run.GaugeText.{if_asked}
use Rattle.command_tasks.specs.command_run.Leaving.{IsLastStore, LeavesOf}
use Rattle.command_tasks.specs.command_run.declared.running.Left.{Left}
use Rattle.command_tasks.specs.command_run.Starting.{IsStarted, ReportsEnded, failure_for, gauge_lines}
use Rattle.command_tasks.proofs.command_run.ExecOnce.{same_answer, answers_alike}
use Rattle.command_tasks.proofs.command_run.command_source.Once.{refused_not_ready}
use Rattle.command_tasks.proofs.command_run.Execs as X
use Rattle.command_tasks.proofs.command_run.Entry as N
use Rattle.command_tasks.proofs.command_run.Entry.{IsEntry}
use Rattle.command_tasks.proofs.command_run.Leaving.{left_by}
use Rattle.command_tasks.proofs.command_run.Ran as P
use Rattle.command_library.specs.GenAnswer.{tree_source, build, gen_room, Makes, LongInput, NoTree, Made, Generates}
use Rattle.command_library.specs.MadeTree.{gen_input, lines_of_results}
use Rattle.command_library.proofs.Accepted.{text_is_ready}
use Rattle.command_library.proofs.Words.{printed_once}

-- how a run ended that gave no value is reported
pub failed_reported : (tb : Table) (types : List ℕ) (room : Room) (following : List ℕ) (s : Store) (given : List ℕ) (o : Ended) (failure : Failure) → failure_for o room.calls room.frames ≡ Some failure → ReportsEnded tb types room following s given o (Err failure)
failed_reported tb types room following s given M.Value failure e = absurd (none-some failure e)
failed_reported tb types room following s given (M.Trap kind line col) failure e = ap Err (sym (same_Some (F.Trap kind line col) failure e))
failed_reported tb types room following s given M.Out failure e = ap Err (sym (same_Some (F.OutOfCalls room.calls) failure e))
failed_reported tb types room following s given M.Deep failure e = ap Err (sym (same_Some (F.OutOfFrames room.frames) failure e))

-- and it is the end of a run
pub run_failed : (o : Ended) (calls frames : ℕ) (failure : Failure) → failure_for o calls frames ≡ Some failure → is_run_failure failure ≡ true
run_failed M.Value calls frames failure e = absurd (none-some failure e)
run_failed (M.Trap kind line col) calls frames failure e = ap is_run_failure (sym (same_Some (F.Trap kind line col) failure e))
run_failed M.Out calls frames failure e = ap is_run_failure (sym (same_Some (F.OutOfCalls calls) failure e))
run_failed M.Deep calls frames failure e = ap is_run_failure (sym (same_Some (F.OutOfFrames frames) failure e))

-- one that gave a value
pub is_value : (o : Ended) (calls frames : ℕ) → failure_for o calls frames ≡ None → o ≡ M.Value
is_value M.Value calls frames e = refl
is_value (M.Trap kind line col) calls frames e = absurd (none-some (F.Trap kind line col) (sym e))
is_value M.Out calls frames e = absurd (none-some (F.OutOfCalls calls) (sym e))
is_value M.Deep calls frames e = absurd (none-some (F.OutOfFrames frames) (sym e))

-- this is said of a failure, or memory runs out
pub or_memory : (Is : Result (List ℕ) Failure → Type 0) (failure : Failure) → Is (Err failure) → OrNoMemory Is (Err failure)
or_memory Is F.NoMemory h = tt
or_memory Is failure h = h

pub gives_not_deep : (a : Answer) (vs : Values) (left : ℕ) → a ≡ Gives vs left → a ≢ Deep
gives_not_deep a vs left e d = let no : Gives vs left ≡ Deep = sym e ∙ d in absurd cc

pub no_text : (failure : Failure) (text : List ℕ) → ◌≡◌ {A = Result (List ℕ) Failure} (Err failure) (Ok text) → ⊥
no_text failure text e = absurd cc

text_not_deep : (tb : Table) (types : List ℕ) (calls frames : ℕ) (following : Values → List ℕ) (a : Answer) (text : List ℕ) → ReportsRun tb types calls frames following a (Ok text) → a ≢ Deep
text_not_deep tb types calls frames following a text h e =
    let no : ◌≡◌ {A = Result (List ℕ) Failure} (Ok text) (Err (F.OutOfFrames frames)) = subst (λ a. ReportsRun tb types calls frames following a (Ok text)) e h in
    absurd cc

module _ (source : List ℕ) (seed count : ℕ) (input : List ℕ) (is : input ≡ gen_input seed count) where
  pub too_long : MOST_FILE_BYTES < length input → Makes source seed count (Err (F.BadInput MOST_FILE_BYTES))
  too_long more = LongInput (subst (λ bs. MOST_FILE_BYTES < length bs) is more)

  module _ (short : length input ≤ MOST_FILE_BYTES) where
    within : length (gen_input seed count) ≤ MOST_FILE_BYTES
    within = subst (λ bs. length bs ≤ MOST_FILE_BYTES) is short

    pub no_tree : (failure : Failure) → OrNoMemory (Execs source build input gen_room false) (Err failure) → OrNoMemory (Makes source seed count) (Err failure)
    no_tree F.NoMemory h = tt
    no_tree failure h = NoTree failure within (subst (λ bs. Execs source build bs gen_room false (Err failure)) is h)

    -- the values that are meant, where the run prints some text
    made_of : (x : Entry source build) (vs rs : Values) (left frames : ℕ) (text : List ℕ) → Spells x input vs → answer_of x vs gen_room.calls frames ≡ Gives rs left → (e : Result (List ℕ) Failure) → e ≡ Ok text → Execs source build input gen_room false e → Makes source seed count (Ok (lines_of_results count rs))
    made_of x vs rs left frames text spelt gives _ printed (Misspelt y at place) = absurd (no_text (F.BadInput at) text printed)
    made_of x vs rs left frames text spelt gives _ printed (Small y us also less) = absurd (no_text (F.TooSmall (words_of y us) gen_room.words) text printed)
    made_of x vs rs left frames text spelt gives e printed (Ran y us _ also fits ran) =
        let runs : RunsOn y us gen_room false (Ok text) = subst (λ e. RunsOn y us gen_room false e) printed ran in
        let n : ℕ = frames_for runs.code gen_room in
        let texts : us ≡ vs = one_text source build x y input vs us spelt also in
        let here : answer_of y us gen_room.calls frames ≡ Gives rs left = answers_alike source build x y us gen_room.calls frames ∙ (ap (λ ws. answer_of x ws gen_room.calls frames) texts ∙ gives) in
        let some : answer_of y us gen_room.calls n ≢ Deep = text_not_deep y.program.types y.root.results gen_room.calls n (λ ws. []) (answer_of y us gen_room.calls n) text runs.reported in
        let same : answer_of y us gen_room.calls frames ≡ answer_of y us gen_room.calls n = same_answer y.core build us gen_room.calls frames n (gives_not_deep (answer_of y us gen_room.calls frames) rs left here) some in
        Made y us rs left text within (subst (λ bs. Spells y bs us) is also) fits runs (sym same ∙ here)

    module _ (r : Chosen) (ready : IsReady source (Compiled build)) (h : IsEntryOf source build r) (literals : HasLiterals (plain r.checked.code)) where
      abbrev entry : Entry source build
      entry = N.entry source build r ready h

      abbrev f : PlainFunction
      f = plain_function (N.function source build r ready h)

      header : IsEntry r entry (N.function source build r ready h)
      header = N.is_entry source build r ready h

      there_is : function_at (plain r.checked.code) r.entry ≡ Some f
      there_is = slice_get-map plain_function r.checked.code.functions.items r.entry ∙ ap (option_map plain_function) header.at

      spells : (vs : Values) → SpellsValues r.checked.code.types (types_of f.params) input vs → Spells entry input vs
      spells vs k = subst (λ ks. SpellsValues entry.program.types ks input vs) (ap types_of header.params) (subst (λ tb. SpellsValues tb (types_of f.params) input vs) h.code.lowered.types k)

      -- a run that gave values gave those that are meant
      pub tree : (m : Seen) (st : IsStarted r input gen_room m) (o : Ended) (new : Seen) (g : Gauge) → P.Ran r input gen_room m st o new g → o ≡ M.Value → (text : List ℕ) → ((vs : Values) → ArePrintable r.checked.code.types new.store.cells f.results new.stack.given vs → text ≡ lines_of_results count vs) → Makes source seed count (Ok text)
      tree m st o new g ran value text lines = by answer refl (subst (λ o. IsMeant tb f.results o last new.stack.given answer) value meant)
        where
          tb : Table
          tb = r.checked.code.types

          frames : ℕ
          frames = frames_of gen_room.frames st.has_frames.held

          last : State
          last = state_with new.stack st.state.lent new.store

          own : st.function ≡ f
          own = same_Some st.function f (sym st.there ∙ there_is)

          spelt : Spells entry input st.values
          spelt = spells st.values (subst (λ (q : PlainFunction). SpellsValues tb (types_of q.params) input st.values) own st.spelt)

          begins : Begins r.checked.code r.entry f st.values frames st.state
          begins = subst (λ (q : PlainFunction). Begins r.checked.code r.entry q st.values frames st.state) own
              (subst (λ n. Begins r.checked.code r.entry st.function st.values n st.state) st.has_frames.are st.begins)

          answer : Answer
          answer = (meaning entry.core f.name NoClosed st.values gen_room.calls frames).answer

          meant : IsMeant tb f.results o last new.stack.given answer
          meant = answers_as_meant source entry.core r.checked ran.before ran.waits r.entry f st.values frames st.state gen_room.calls o last new.stack.given (N.code_of source build r ready h literals) ran.kinds begins header.some ran.runs

          reported : (vs : Values) → ArePrintable tb new.store.cells f.results new.stack.given vs → ReportsEnded tb st.function.results gen_room (if_asked false (gauge_lines g st.has_frames.held)) new.store new.stack.given o (Ok (printed_lines tb f.results vs ++ []))
          reported vs p = subst (λ (q : PlainFunction). ReportsEnded tb q.results gen_room [] new.store new.stack.given o (Ok (printed_lines tb f.results vs ++ []))) (sym own)
              (subst (λ o. ReportsEnded tb f.results gen_room [] new.store new.stack.given o (Ok (printed_lines tb f.results vs ++ []))) (sym value)
              (λ us q. ap (λ ws. Ok (printed_lines tb f.results ws ++ [])) (sym (printed_once tb new.store.cells f.results new.stack.given vs us p q))))

          by : (a : Answer) → answer ≡ a → IsMeant tb f.results M.Value last new.stack.given a → Makes source seed count (Ok text)
          by (Gives vs left) e k =
              let p : ArePrintable tb new.store.cells f.results new.stack.given vs = printable tb new.store f.results new.stack.given vs k in
              let gives : answer_of entry st.values gen_room.calls frames ≡ Gives vs left = subst (λ n. (meaning entry.core n NoClosed st.values gen_room.calls frames).answer ≡ Gives vs left) header.named e in
              let execs = X.execs source build input r ready h literals gen_room false m st o new g ran (Ok (printed_lines tb f.results vs ++ [])) (reported vs p) in
              subst (λ t. Makes source seed count (Ok t)) (sym (lines vs p)) (made_of entry st.values vs left frames (printed_lines tb f.results vs ++ []) spelt gives (Ok (printed_lines tb f.results vs ++ [])) refl execs)
          by (Trap kind line col) e k = absurd k
          by Out e k = absurd k
          by Deep e k = absurd k
          by Stuck e k = absurd k

-- ---- of the library's text

module _ (seed count : ℕ) (text : List ℕ) (same : text ≡ tree_source) where
  pub ran_text : (o : Result (Vec ℕ Global) Failure) → OrNoMemory (Makes text seed count) o → OrNoMemory (Generates seed count) o
  ran_text (Ok v) h = subst (λ t. Makes t seed count (Ok v.items)) same h
  ran_text (Err F.NoMemory) h = tt
  ran_text (Err f) h = subst (λ t. Makes t seed count (Err f)) same h

  pub kept_text : (f : Failure) → KeepsFrom text (Compiled build) f → OrNoMemory (Generates seed count) (Err f)
  kept_text (F.Refused r) h = absurd (refused_not_ready tree_source (Compiled build) r (subst (λ t. Refuses t (Compiled build) r) same h) text_is_ready)
  kept_text F.NoMemory h = tt
  kept_text f h = absurd h

-- what is left of a run of a code of the library's text
pub left_of : (text : List ℕ) → text ≡ tree_source → (input : List ℕ) (room : Room) (r : Chosen) (cells : Option Stored) (left : Option Left) → IsEntryOf text build r → IfSome cells (IsLastStore r input room) → IfSome left (λ l. (l.verified ≡ r.checked) × (cells ≡ Some l.cells)) → IfSome left (LeavesOf (IsEntryOf tree_source build) input room)
left_of text same input room r cells None is h k = tt
left_of text same input room r cells (Some l) is h k = (r, subst (λ t. IsEntryOf t build r) same is, left_by r input room cells (Some l) h k)
