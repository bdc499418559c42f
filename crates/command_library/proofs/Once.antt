-- `gen` ends in one thing: its text has one entry, whose run is reported in one way, and where it gives values these
-- are what the entry means, however many frames its code needs.
use Rattle.std.proofs.Common.{◌≡◌, ◌∙◌, ℕ, false, List, ap, sym, refl, arith}
use Rattle.std.specs.Prelude.{Result, Ok, Err}
use Rattle.fip_language.specs.Meaning.{Gives}
use Rattle.fip_language.specs.Values.{Values}
use Rattle.command_outcome.specs.declared.failure.Failure.{Failure}
use Rattle.command_tasks.specs.command_run.command_source.Wanted.{Compiled, IsReady}
use Rattle.command_tasks.specs.command_run.command_eval.EvalAnswer.{Entry, Spells}
use Rattle.command_tasks.proofs.command_run.command_eval.Once.{one_text}
use Rattle.command_tasks.specs.command_run.ExecAnswer.{Execs, Ran, answer_of, frames_for}
use Rattle.command_tasks.proofs.command_run.ExecOnce.{exec_once, same_answer, answers_alike}
use Rattle.command_library.specs.GenAnswer.{tree_source, build, gen_room, Makes, LongInput, NoTree, Made, Generates}
use Rattle.command_library.specs.MadeTree.{gen_input, lines_of_results}
use Rattle.command_library.proofs.Accepted.{text_is_ready}
use Rattle.command_library.proofs.Runs.{gives_not_deep, no_text}
use Rattle.command_tasks.proofs.command_session.command_run.command_eval.command_source.machine_correctness.compiler_correctness.source_safety.in_place_safety.Counting.{same_values}

module _ (source : List ℕ) (seed count : ℕ) where
  abbrev input : List ℕ
  input = gen_input seed count

  -- what is meant is one, with any frames
  pub values_once : (x y : Entry source build) (vs us rs qs : Values) (l k m n : ℕ) → Spells x input vs → Spells y input us → answer_of x vs gen_room.calls m ≡ Gives rs l → answer_of y us gen_room.calls n ≡ Gives qs k → rs ≡ qs
  values_once x y vs us rs qs l k m n spelt also gives other =
      let moved : answer_of x vs gen_room.calls n ≡ Gives qs k = sym (answers_alike source build x y vs gen_room.calls n) ∙ (ap (λ ws. answer_of y ws gen_room.calls n) (sym (one_text source build x y input vs us spelt also)) ∙ other) in
      let same : answer_of x vs gen_room.calls m ≡ answer_of x vs gen_room.calls n = same_answer x.core build vs gen_room.calls m n (gives_not_deep (answer_of x vs gen_room.calls m) rs l gives) (gives_not_deep (answer_of x vs gen_room.calls n) qs k moved) in
      same_values rs qs l k (sym gives ∙ (same ∙ moved))

  module _ (ready : IsReady source (Compiled build)) where
    fails_or_prints : (failure : Failure) (text : List ℕ) → Execs source build input gen_room false (Err failure) → Execs source build input gen_room false (Ok text) → ⊥
    fails_or_prints failure text h k = no_text failure text (exec_once source build input gen_room false (Err failure) (Ok text) h k)

    pub makes_once : (d e : Result (List ℕ) Failure) → Makes source seed count d → Makes source seed count e → d ≡ e
    makes_once _ _ (LongInput more) (LongInput again) = refl
    makes_once _ _ (LongInput more) (NoTree f short h) = absurd (omega (arith, more, short))
    makes_once _ _ (LongInput more) (Made x vs rs l text short spelt fits runs gives) = absurd (omega (arith, more, short))
    makes_once _ _ (NoTree f short h) (LongInput more) = absurd (omega (arith, more, short))
    makes_once _ _ (NoTree f short h) (NoTree g also k) = exec_once source build input gen_room false (Err f) (Err g) h k
    makes_once _ _ (NoTree f short h) (Made x vs rs l text also spelt fits runs gives) = absurd (fails_or_prints f text h (Ran x vs (Ok text) spelt fits runs))
    makes_once _ _ (Made x vs rs l text short spelt fits runs gives) (LongInput more) = absurd (omega (arith, more, short))
    makes_once _ _ (Made x vs rs l text short spelt fits runs gives) (NoTree f also h) = absurd (fails_or_prints f text h (Ran x vs (Ok text) spelt fits runs))
    makes_once _ _ (Made x vs rs l text short spelt fits runs gives) (Made y us qs k other also still within on means) =
        ap (λ ws. Ok (lines_of_results count ws)) (values_once x y vs us rs qs l k (frames_for runs.code gen_room) (frames_for on.code gen_room) spelt still gives means)

-- what `gen` ends in
pub generated_once : (seed count : ℕ) (d e : Result (List ℕ) Failure) → Generates seed count d → Generates seed count e → d ≡ e
generated_once seed count d e h k = makes_once tree_source seed count text_is_ready d e h k
