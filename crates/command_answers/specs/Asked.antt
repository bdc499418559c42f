-- For the theorems on `eval` and `exec`: what they are asked, by what is known of the source: its typed program, the
-- instance of the entry, and the arguments that the input encodes. And what is reported of it: of `reverse` on
-- `Cons(1, Cons(2, Nil))` the one line `Cons(2, Cons(1, Nil))`.
use Rattle.std.specs.Prelude.{◌≡◌, ◌≤◌, ℕ, List, Ok, Err}
use Rattle.command_library.specs.fip_language.declared.TrapKind.{TrapKind}
use Rattle.command_library.specs.fip_language.Meaning.{Answer, Trap}
use Rattle.command_library.specs.fip_language.PrintedText.{printed_lines}
use Rattle.command_library.specs.fip_language.Values.{Values}
use Rattle.command_library.specs.fip_language.ValueText.{SpellsValues}
use Rattle.command_library.specs.command_run.fip_trees.Tree.{Program}
use Rattle.command_library.specs.command_tasks.source_report.instance_semantics.Meaning.{flat_meaning}
use Rattle.library_correctness.specs.evaluation_steps.Gives.{GivesLeaving}
use Rattle.command_library.specs.command_outcome.declared.failure.Failure.TheVariants as F
use Rattle.command_library.specs.command_words.Words.{Room}
use Rattle.command_library.specs.command_tasks.source_report.type_safety.Soundness.{parameter_types}
use Rattle.command_library.specs.command_source.Entries.{IsRootedIn}
use Rattle.command_library.specs.command_run.CodeRun.{words_for}
use Rattle.command_answers.specs.Exec.{End}

-- The source breaks no rule, the program is its typed program, the instance is its root of this name, and the input is
-- the text of the arguments.
pub record Asked : Type 0 where
  pub source : List ℕ
  pub name : List ℕ
  pub input : List ℕ
  pub program : Program
  pub number : ℕ
  pub arguments : Values
  pub rooted : IsRootedIn source name program number
  pub spelt : SpellsValues program.types (parameter_types rooted.root) input arguments

-- the answer of the evaluation of the instance
abbrev pub answer_of : Asked → ℕ → ℕ → Answer
answer_of a calls frames = (flat_meaning a.program a.number a.arguments calls frames).answer

-- With these calls and at least so many frames the evaluation gives these values.
abbrev pub GivesWith : Asked → ℕ → ℕ → Values → Type 0
GivesWith a calls least vs = (frames : ℕ) → least ≤ frames → GivesLeaving 0 vs (answer_of a calls frames)

-- With these calls and at least so many frames the evaluation is a trap at this place.
abbrev pub TrapsWith : Asked → ℕ → ℕ → TrapKind → ℕ → ℕ → Type 0
TrapsWith a calls least kind line col = (frames : ℕ) → least ≤ frames → answer_of a calls frames ≡ Trap kind line col

-- The values are printed, a line for each.
abbrev pub Prints : Asked → Values → End → Type 0
Prints a vs e = e ≡ Ok (printed_lines a.program.types (a.rooted).root.results vs)

-- The trap is reported.
abbrev pub ReportsTrap : TrapKind → ℕ → ℕ → End → Type 0
ReportsTrap kind line col e = e ≡ Err (F.Trap kind line col)

-- The room has the words of the arguments' cells and of the header's credits, and so many frames.
pub record Suffices (a : Asked) (least : ℕ) (room : Room) : Type 0 where
  pub words : words_for a.arguments (a.rooted).root.credits ≤ room.words
  pub frames : least ≤ room.frames
