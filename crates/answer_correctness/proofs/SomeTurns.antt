-- A list of tasks of a source that breaks no rule ends in something: each line is a task, or one is the first that is
-- none; the store has the words, or too few; and each task has an answer, since no accepted source is stuck.
use Rattle.std.proofs.Common.{◌≡◌, ◌+◌, ◌<◌, ◌≤◌, ◌++◌, inl, inr, ℕ, suc, List, [], ◌∷◌, length, map, Some, slice_get, refl, arith}
use Rattle.std.specs.Prelude.{◌⊎◌, Ok, Err, codes}
use Rattle.std.specs.Fmt.{decimal}
use Rattle.command_answers.proofs.command_library.fip_language.Search.{le_or_less}
use Rattle.command_answers.specs.command_library.command_outcome.Texts.{line_end, trap_text, out_of_calls_text, out_of_frames_text}
use Rattle.command_answers.specs.command_library.command_outcome.declared.failure.Failure.TheVariants as F
use Rattle.command_answers.specs.command_library.command_words.Words.{Room}
use Rattle.command_answers.specs.command_library.command_source.Wanted.{Lawful, IsReady}
use Rattle.command_answers.specs.command_library.fip_language.Meaning.{Answer, Gives, Trap, Out, Deep, Stuck}
use Rattle.command_answers.specs.command_library.session_semantics.Lines.{lines_of}
use Rattle.command_answers.specs.command_library.session_semantics.Talk.{Setting, answer_of, free_frames}
use Rattle.command_answers.specs.command_library.session_semantics.Turns.{Task, IsTask, AreTasks, IsBadFrom, TaskText, TaskLines, Comes, Bad, Small, Answered, joined, most_tasks, type_of, words_of_tasks}
use Rattle.command_answers.specs.command_tasks.TasksAnswer.{IsSetting, TakesTurns}
use Rattle.command_answers.proofs.command_tasks.Weighing.{all_typed}
use Rattle.worked_examples.specs.fip_trees.Tree.{Program}
use Rattle.worked_examples.specs.source_report.Report.{IsAccepted}
use Rattle.worked_examples.specs.type_safety.Soundness.{IsSoundAnswer}
use Rattle.command_answers.proofs.command_library.command_run.machine_correctness.compiler_correctness.source_safety.Accepted.{matched_sound}
use Rattle.command_answers.specs.Exec.{End}

module _ (source : List ℕ) (o : Setting) (accepted : IsAccepted source o.program) where
  abbrev p : Program
  p = o.program

  reported : (t : Task) (a : Answer) → IsSoundAnswer p.types t.header.results a → (text : List ℕ) × TaskText o t a text
  reported t (Gives vs left) h = (joined p.types t.header.results vs line_end, refl)
  reported t (Trap kind line col) h = (trap_text kind line col, refl)
  reported t Out h = (out_of_calls_text o.calls, refl)
  reported t Deep h = (out_of_frames_text (free_frames o t.entry), refl)
  reported t Stuck h = absurd h

  task_text : (line : List ℕ) (t : Task) → IsTask p line t → (text : List ℕ) × TaskText o t (answer_of o t.entry t.values) text
  task_text line t is =
      reported t (answer_of o t.entry t.values)
      (matched_sound source p t.entry t.header t.values o.calls (free_frames o t.entry) accepted.tailed.credited.owned.matched is.called.there
      (all_typed p.types (map type_of t.header.params) is.parts t.values is.typed))

  lines_text : (n : ℕ) (lines : List (List ℕ)) (ts : List Task) → AreTasks p lines ts → (text : List ℕ) × TaskLines o n ts text
  lines_text n lines [] are = ([], refl)
  lines_text n [] (t ∷ ts) are = absurd are
  lines_text n (line ∷ lines) (t ∷ ts) are =
      let first = task_text line t are.0 in
      let rest = lines_text (suc n) lines ts are.1 in
      (decimal n ++ (codes ": " ++ (first.0 ++ rest.0)), (first.0, rest.0, first.1, refl, rest.1))

  tasks_or_bad : (n : ℕ) (lines : List (List ℕ)) → n ≤ most_tasks → ((ts : List Task) → AreTasks p lines ts → n + length lines ≤ most_tasks → ⊥) → ((k : ℕ) → IsBadFrom p n lines k → ⊥) → ⊥
  tasks_or_bad n [] le tasks bad = tasks [] tt (omega (arith, le))
  tasks_or_bad n (line ∷ lines) le tasks bad = elim (le_or_less most_tasks n) as (λ v. ⊥) [
    | inl most ↦ bad (suc n) (inl (refl, inl most))
    | inr less ↦ bad (suc n) (inl (refl, inr (λ t is. tasks_or_bad (suc n) lines (omega (arith, less)) (λ ts are few. tasks (t ∷ ts) (is, are) (omega (arith, few))) (λ k h. bad k (inr (less, (t, is), h))))))
  ]

  some_comes : (lines : List (List ℕ)) → ((e : End) → Comes o lines e → ⊥) → ⊥
  some_comes lines none = tasks_or_bad 0 lines (omega arith) few_tasks (λ k h. none (Err (F.BadTask k)) (Bad k h))
    where
      few_tasks : (ts : List Task) → AreTasks p lines ts → 0 + length lines ≤ most_tasks → ⊥
      few_tasks ts are few = elim (le_or_less (words_of_tasks ts) o.words) as (λ v. ⊥) [
        | inl fits ↦ let text = lines_text 0 lines ts are in none (Ok text.0) (Answered ts text.0 are (omega (arith, few)) fits text.1)
        | inr less ↦ none (Err (F.TooSmall (words_of_tasks ts) o.words)) (Small ts are (omega (arith, few)) less)
      ]

-- the setting of a source that is ready
pub setting : (source : List ℕ) (room : Room) → IsReady source Lawful → (o : Setting) × IsSetting source room o
setting source room h = (
  record { program = h.program; members = h.accepted.members; words = room.words; calls = room.calls; frames = room.frames },
  record { accepted = h.accepted; found = h.accepted.groups; words = refl; calls = refl; frames = refl },
)

pub some_turns : (source input : List ℕ) (room : Room) → IsReady source Lawful → ((e : End) → TakesTurns source input room e → ⊥) → ⊥
some_turns source input room h none = let o = setting source room h in some_comes source o.0 o.1.accepted (lines_of input) (λ e c. none e (o.0, o.1, c))
