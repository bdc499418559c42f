-- `run` is never without an outcome: a function of a name has a stack number, its input is a text or goes wrong at a
-- place, and a run from what was loaded ends, as the run on trees does.
use Rattle.std.proofs.Common.{◌≡◌, inl, inr, ℕ, suc, ◌≤◌, Bool, true, false, List, [], ◌∷◌, ◌++◌, Some, slice_get, refl, ap, subst, if◌then◌else◌}
use Rattle.std.specs.Prelude.{Ok, Err, bytes_eq}
use Rattle.std.proofs.lemmas.Slice.Eq.{bytes_eq-Decides}
use Rattle.command_answers.proofs.command_library.fip_language.Search.{le_or_less}
use Rattle.command_answers.specs.command_library.fip_language.Character.{characters}
use Rattle.command_answers.specs.command_library.fip_language.Meaning as M
use Rattle.command_answers.specs.command_library.fip_language.Prefix as P
use Rattle.command_answers.specs.command_library.fip_language.PrintedText.{printed_lines}
use Rattle.command_answers.specs.command_library.fip_language.SoundTable.{AreTypes, IsSoundTable}
use Rattle.command_answers.specs.command_library.fip_language.Table.{Table, HaveTypes}
use Rattle.command_answers.specs.command_library.fip_language.Values.{Values}
use Rattle.command_answers.specs.command_library.command_words.Words.{Room}
use Rattle.command_answers.specs.command_library.command_outcome.declared.failure.Failure.TheVariants as F
use Rattle.worked_examples.specs.cell_code.Plain.{PlainFunction, PlainCode, function_at, results_of, results}
use Rattle.command_answers.specs.command_library.machine_semantics.Runs as R
use Rattle.command_answers.specs.command_library.code_rules.Tables.{AreSoundTables}
use Rattle.command_answers.proofs.command_library.separation.KindsFound.{kinds_found}
use Rattle.command_answers.proofs.command_library.separation.Sound.{formed, has_form}
use Rattle.worked_examples.proofs.separation_bounds.Ending.{run_ends}
use Rattle.worked_examples.proofs.separation_bounds.Numbers.{has_stack}
use Rattle.worked_examples.specs.tree_refinement.Runs as A
use Rattle.worked_examples.proofs.tree_refinement.Running.{trees_end}
use Rattle.command_answers.proofs.command_library.run_loading.Begins.{begins, is_loaded}
use Rattle.command_answers.specs.command_library.value_text.Loaded.{types_of}
use Rattle.command_answers.specs.command_library.value_text.Machine.{step, final, start}
use Rattle.command_answers.proofs.command_library.value_text.Exact.{accepted_text, stopped_text}
use Rattle.command_answers.proofs.command_library.value_text.Tables.{is_table, types_alive}
use Rattle.command_answers.proofs.command_library.value_text.Typed.{input_typed}
use Rattle.command_answers.specs.command_library.command_source.Codes.{IsSoundFile, has_named, names_one, HasFunction}
use Rattle.command_answers.proofs.command_library.command_run.FileTypes.{file_spelt}
use Rattle.command_answers.proofs.command_library.command_run.RunTables.{tables, sound_table, params_known}
use Rattle.command_answers.specs.command_library.command_run.CodeRun.{Chosen, SpellsFor, RunOf, frames_for, words_of, all_seen, ReportsCode, RunsCode, Misspelt, Small, Ran}
use Rattle.command_answers.specs.command_library.command_run.GaugeText.{gauge_by_states, if_asked}
use Rattle.command_answers.specs.command_library.run_loading.Loading.{first_store, first_words}
use Rattle.command_answers.proofs.command_library.separation.Loading.{loaded_is}
use Rattle.command_answers.specs.command_library.machine_semantics.States.{State}
use Rattle.command_answers.specs.Exec.{End}
use Rattle.command_answers.proofs.FileTexts.{literals}

-- ---- the function

record IsNamed (name : List ℕ) (fs : List PlainFunction) : Type 0 where
  number : ℕ
  function : PlainFunction
  there : slice_get fs number ≡ Some function
  named : function.name ≡ name

named_in : (name : List ℕ) (fs : List PlainFunction) → has_named name fs ≡ true → IsNamed name fs
named_in name [] e = cc
named_in name (f ∷ fs) e = by (bytes_eq f.name name) refl (named_in name fs) e
  where
    by : (b : Bool) → bytes_eq f.name name ≡ b → (has_named name fs ≡ true → IsNamed name fs) → (if b then true else has_named name fs) ≡ true → IsNamed name (f ∷ fs)
    by true h later e = record { number = 0; function = f; there = refl; named = (bytes_eq-Decides f.name name).0 h }
    by false h later e = let r = later e in record { number = suc r.number; function = r.function; there = r.there; named = r.named }

chosen : (bytes name : List ℕ) (code : PlainCode) → IsSoundFile bytes code → names_one name code.functions ≡ true → (Chosen bytes name → ⊥) → ⊥
chosen bytes [] code file e none = cc
chosen bytes (b ∷ name) code file e none =
    let x = named_in (b ∷ name) code.functions e in
    has_stack code x.number file.sound (λ held stack. none (record {
      code = code;
      file = file;
      number = x.number;
      function = x.function;
      there = x.there;
      named = x.named;
      some = λ z. absurd cc;
      held = held;
      stack = stack;
    }))

-- ---- what is reported

reports : (tb : Table) (results : List ℕ) (calls frames : ℕ) (following : List ℕ) (last : State) (end : R.End) (left : ℕ) (a : M.Answer) → A.IsSameEnd tb results last left end a → (e : End) × ReportsCode tb results calls frames following last end e
reports tb results calls frames following last (R.Value ws) left (M.Gives us l) h = (Ok (printed_lines tb results us ++ following), (us, h.0, refl))
reports tb results calls frames following last (R.Value ws) left (M.Trap k line col) h = absurd h
reports tb results calls frames following last (R.Value ws) left M.Out h = absurd h
reports tb results calls frames following last (R.Value ws) left M.Deep h = absurd h
reports tb results calls frames following last (R.Value ws) left M.Stuck h = absurd h
reports tb results calls frames following last (R.Trap k line col) left a h = (Err (F.Trap k line col), refl)
reports tb results calls frames following last R.Out left a h = (Err (F.OutOfCalls calls), refl)
reports tb results calls frames following last R.Deep left a h = (Err (F.OutOfFrames frames), refl)
reports tb results calls frames following last R.Unsound left (M.Gives us l) h = absurd h
reports tb results calls frames following last R.Unsound left (M.Trap k line col) h = absurd h
reports tb results calls frames following last R.Unsound left M.Out h = absurd h
reports tb results calls frames following last R.Unsound left M.Deep h = absurd h
reports tb results calls frames following last R.Unsound left M.Stuck h = absurd h

-- ---- the run

results_are : (c : PlainCode) (n : ℕ) (f : PlainFunction) → function_at c n ≡ Some f → results c n ≡ f.results
results_are c n f e = ap results_of e

runs : (bytes name input : List ℕ) (room : Room) (gauge : Bool) (c : Chosen bytes name) (vs : Values) → SpellsFor c input vs → words_of c vs ≤ room.words → (e : End) × RunsCode bytes name input room gauge e
runs bytes name input room gauge c vs spelt fits =
    let code : PlainCode = c.code in
    let f : PlainFunction = c.function in
    let frames : ℕ = frames_for c room in
    let sound = (c.file).sound in
    let kinds = kinds_found code in
    let written = literals bytes c.code (c.file).spelt in
    let typed : HaveTypes code.types (types_of f.params) vs = input_typed code.types (types_of f.params) (characters input) vs spelt in
    let first = is_loaded code c.number f vs frames c.there in
    let starts = begins code kinds.0 kinds.1 c.number f vs frames first.0 sound written kinds.2 c.there typed first.1 in
    let over = run_ends code kinds.0 kinds.1 c.number [] first.0 room.calls starts.0 in
    let trees = trees_end code kinds.0 kinds.1 c.number [] first.0 vs room.calls over.0 over.1 over.2 over.3 starts.0 starts.1 over.4 in
    let r : RunOf c vs room = record {
      before = kinds.0;
      waits = kinds.1;
      first = first.0;
      starts = starts.0;
      arguments = starts.1;
      free = ap (λ (s : State). s.free) (loaded_is code c.number f (first_store vs f.credits) (first_words vs f.credits) frames first.0 c.there first.1);
      end = over.0;
      last = over.1;
      left = over.2;
      steps = over.3;
      ends = over.4;
    } in
    let reported = reports code.types f.results room.calls frames (if_asked gauge (gauge_by_states (all_seen r) c.held)) over.1 over.0 over.2 trees.0 (subst (λ ts. A.IsSameEnd code.types ts over.1 over.2 over.0 trees.0) (results_are code c.number f c.there) trees.3) in
    (reported.0, Ran c vs r reported.0 spelt fits reported.1)

by_tables : (bytes name input : List ℕ) (room : Room) (gauge : Bool) (c : Chosen bytes name) → AreSoundTables c.code → ((e : End) → RunsCode bytes name input room gauge e → ⊥) → ⊥
by_tables bytes name input room gauge c t none = by (P.run (step tb) (final tb) (start ks) input 0) refl
  where
    tb : Table
    tb = (c.code).types

    ks : List ℕ
    ks = types_of (c.function).params

    table : IsSoundTable tb
    table = sound_table c.code t (λ u k x at. file_spelt bytes c.code u k x c.file at)

    known : AreTypes tb ks
    known = params_known tb (c.function).params (has_form c.code c.function (formed c.code c.number c.function (c.file).sound c.there)).params

    by : (x : P.Outcome Values) → P.run (step tb) (final tb) (start ks) input 0 ≡ x → ⊥
    by (P.Stopped at) e = none (Err (F.BadInput at)) (Misspelt c at (stopped_text tb (is_table tb table) ks (types_alive tb table ks known) input at e))
    by (P.Accepted vs) e =
        let spelt : SpellsFor c input vs = accepted_text tb (is_table tb table) ks (types_alive tb table ks known) input vs e in
        elim (le_or_less (words_of c vs) room.words) as (λ v. ⊥) [
          | inl fits ↦ let o = runs bytes name input room gauge c vs spelt fits in none o.0 o.1
          | inr less ↦ none (Err (F.TooSmall (words_of c vs) room.words)) (Small c vs spelt less)
        ]

pub some_run : (bytes name input : List ℕ) (room : Room) (gauge : Bool) → HasFunction bytes name → ((e : End) → RunsCode bytes name input room gauge e → ⊥) → ⊥
some_run bytes name input room gauge (code, file, one) none =
    chosen bytes name code file one (λ c. tables c.code (c.file).sound (λ t. by_tables bytes name input room gauge c t none))
