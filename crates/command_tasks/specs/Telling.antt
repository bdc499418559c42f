-- For private contracts alone: where tasks are after some turns, and what is reported of those that ended.
use Rattle.std.specs.Prelude.{◌≡◌, ℕ, suc, List, [], ◌∷◌, ◌++◌, Option, Some, None, codes, slice_get}
use Rattle.std.specs.Fmt.{decimal}
use Rattle.cell_code.specs.declared.code.Code.{Code}
use Rattle.cell_code.specs.declared.code.Function.{Function}
use Rattle.cell_code.specs.Plain.{plain}
use Rattle.fip_tasks.specs.machine_semantics.Steps.{Kinds}
use Rattle.code_verify.specs.Checked.{Checked}
use Rattle.command_outcome.specs.Texts.{line_end, trap_text, out_of_calls_text, out_of_frames_text}
use Rattle.fip_language.specs.Meaning.{Answer, Gives, Trap, Out, Deep, Stuck}
use Rattle.fip_language.specs.Table.{Table}
use Rattle.fip_machine.specs.declared.machine.Ended.{Ended}
use Rattle.fip_machine.specs.Tasks.{state_with}
use Rattle.fip_tasks.specs.Shown.{Shows, CanTurn, CanFinish}
use Rattle.fip_tasks.specs.Turns.{Standing, Turns}
use Rattle.fip_tasks.specs.declared.task.Start.{Start}
use Rattle.command_session.specs.command_run.machine_correctness.Meant.{IsMeant}
use Rattle.command_session.specs.command_run.session_semantics.Turns.{joined}
use Rattle.fip_tasks.specs.task_semantics.Schedules.{Shared, scheduled}

-- the schedule's tasks can each have a turn whenever it is, and be run to their ends
pub record CanRun (v : Checked) (kinds : Kinds) (first : Shared) : Type 0 where
  pub turn : (schedule : List ℕ) (k : ℕ) → CanTurn v kinds (scheduled kinds (plain v.code) schedule first) k
  pub finish : (schedule : List ℕ) (k : ℕ) → CanFinish v kinds (scheduled kinds (plain v.code) schedule first) k

-- the tasks are where some schedule leads
abbrev pub ShowsSome : Checked → Kinds → Shared → Turns → Type 0
ShowsSome v kinds first t = (schedule : List ℕ) × Shows v t (scheduled kinds (plain v.code) schedule first)

abbrev pub results_of : Option Function → List ℕ
results_of None = []
results_of (Some f) = f.results

-- the types of the results of function n
abbrev pub result_types : Code → ℕ → List ℕ
result_types code n = results_of (slice_get code.functions.items n)

-- how an answer is reported in a task's line, which had so many calls and frames
abbrev pub ReportsAnswer : Table → List ℕ → ℕ → ℕ → Answer → List ℕ → Type 0
ReportsAnswer tb types calls frames (Gives vs left) line = line ≡ joined tb types vs line_end
ReportsAnswer tb types calls frames (Trap kind row col) line = line ≡ trap_text kind row col
ReportsAnswer tb types calls frames Out line = line ≡ out_of_calls_text calls
ReportsAnswer tb types calls frames Deep line = line ≡ out_of_frames_text frames
ReportsAnswer tb types calls frames Stuck line = ⊥

-- the line of task n, which was started so and means this answer
abbrev pub IsTaskLine : Code → ℕ → Start → Answer → List ℕ → Type 0
IsTaskLine code n b m text = (line : List ℕ)
    × ReportsAnswer code.types (result_types code b.entry) b.calls b.frames m line
    × (text ≡ decimal n ++ (codes ": " ++ line))

-- the lines of the tasks from number n on
abbrev pub AreTaskLines : Code → ℕ → List Start → List Answer → List ℕ → Type 0
AreTaskLines code n [] [] text = text ≡ []
AreTaskLines code n (b ∷ bs) (m ∷ ms) text = (line : List ℕ) × (rest : List ℕ) × IsTaskLine code n b m line
    × (text ≡ line ++ rest) × AreTaskLines code (suc n) bs ms rest
AreTaskLines code n bs ms text = ⊥

-- how a task answers that means this
abbrev pub Answers : Code → Turns → Start → Answer → Standing → Ended → Type 0
Answers code t b m a x =
    IsMeant code.types (result_types code b.entry) x (state_with a.stack [] t.store) a.stack.given m

-- Each task that was started so, and that has ended, after whatever turns, answers what it means.
abbrev pub EndAs : Checked → Kinds → Shared → List Start → List Answer → Type 0
EndAs v kinds first starts means = (t : Turns) → ShowsSome v kinds first t → (k : ℕ) (b : Start) (m : Answer)
    (a : Standing) (x : Ended) → slice_get starts k ≡ Some b → slice_get means k ≡ Some m →
    slice_get t.tasks k ≡ Some a → a.ended ≡ Some x → Answers v.code t b m a x
