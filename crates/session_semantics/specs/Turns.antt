-- What a list of tasks answers. Each line is a task: a function and its values. All tasks share one store and take
-- turns, and none of that shows: each gets the answer that it would have alone.
--
-- `rev(Cons(1, Nil), Nil)` and `rev(Nil, Nil)` answer `0: Cons(1, Nil)` and `1: Nil`, whosever turn it is when.
use Rattle.std.specs.Prelude.{◌≡◌, ℕ, suc, ◌+◌, ◌<◌, ◌≤◌, ◌⊎◌, List, [], ◌∷◌, ◌++◌, length, map, codes, Result, Ok, Err}
use Rattle.std.specs.Fmt.{decimal}
use Rattle.command_outcome.specs.fip_language.Core.{Name}
use Rattle.command_outcome.specs.fip_language.Values.{Values, End, More, words_needed_by_all}
use Rattle.command_outcome.specs.fip_language.Table.{Table}
use Rattle.command_outcome.specs.fip_language.PrintedText.{printed}
use Rattle.command_outcome.specs.fip_language.Meaning.{Answer, Gives}
use Rattle.command_outcome.specs.fip_base.declared.plain.Param.{Param}
use Rattle.instance_semantics.specs.fip_trees.Tree.{Instance, Program}
use Rattle.command_outcome.specs.Texts.{line_end}
use Rattle.command_outcome.specs.declared.failure.Failure.{Failure}
use Rattle.command_outcome.specs.declared.failure.Failure.TheVariants as F
use Rattle.session_semantics.specs.Lines.{Parts, SpellsTask}
use Rattle.session_semantics.specs.Typed.{AreValues, IsEntry}
use Rattle.session_semantics.specs.Talk.{Setting, answer_of, EndText}

-- the most tasks of a list
abbrev pub most_tasks : ℕ
most_tasks = 1000

pub record Task : Type 0 where
  pub entry : ℕ
  pub header : Instance
  pub values : Values

abbrev pub type_of : Param → ℕ
type_of q = q.ty

-- the bytes are the line of this task
pub record IsTask (p : Program) (bytes : List ℕ) (task : Task) : Type 0 where
  pub name : Name
  pub parts : Parts
  pub spelt : SpellsTask bytes name parts
  pub called : IsEntry p name task.entry task.header
  pub typed : AreValues p.types (map type_of task.header.params) parts task.values

abbrev pub AreTasks : Program → List (List ℕ) → List Task → Type 0
AreTasks p [] [] = Unit {0}
AreTasks p (line ∷ lines) (task ∷ tasks) = IsTask p line task × AreTasks p lines tasks
AreTasks p lines tasks = ⊥

-- Line k, from 1, is the first that is no task; n lines are before these. The line past the last task that a list may
-- have is none.
abbrev pub IsBadFrom : Program → ℕ → List (List ℕ) → ℕ → Type 0
IsBadFrom p n [] k = ⊥
IsBadFrom p n (line ∷ lines) k =
    ((k ≡ suc n) × ((most_tasks ≤ n) ⊎ ((task : Task) → IsTask p line task → ⊥)))
    ⊎ ((n < most_tasks) × ((task : Task) × IsTask p line task) × IsBadFrom p (suc n) lines k)

abbrev pub IsBadTask : Program → List (List ℕ) → ℕ → Type 0
IsBadTask p lines k = IsBadFrom p 0 lines k

-- the words of the cells of credits
abbrev pub credit_words : List ℕ → ℕ
credit_words [] = 0
credit_words (c ∷ cs) = suc c + credit_words cs

-- the words of the cells of all tasks and of the credits of their headers
abbrev pub words_of_tasks : List Task → ℕ
words_of_tasks [] = 0
words_of_tasks (t ∷ ts) = words_needed_by_all t.values + (credit_words t.header.credits + words_of_tasks ts)

-- the results, with `; ` between them
abbrev pub joined : Table → List ℕ → Values → List ℕ → List ℕ
joined tb [] vs rest = rest
joined tb (k ∷ []) (More v vs) rest = printed tb k v rest
joined tb (k ∷ ks) (More v vs) rest = printed tb k v (codes "; " ++ joined tb ks vs rest)
joined tb (k ∷ ks) End rest = rest

-- what a task alone ends in, ended by LF
abbrev pub TaskText : Setting → Task → Answer → List ℕ → Type 0
TaskText o t (Gives vs calls) text = text ≡ joined o.program.types t.header.results vs line_end
TaskText o t answer text = EndText o t.entry answer text

-- the lines of the tasks from number n on
abbrev pub TaskLines : Setting → ℕ → List Task → List ℕ → Type 0
TaskLines o n [] text = text ≡ []
TaskLines o n (t ∷ ts) text = (line : List ℕ) × (rest : List ℕ)
    × TaskText o t (answer_of o t.entry t.values) line
    × (text ≡ decimal n ++ (codes ": " ++ (line ++ rest))) × TaskLines o (suc n) ts rest

-- What a list of tasks ends in: the text on out, or the first line that is no task, or that the store is too small.
pub data Comes (o : Setting) (lines : List (List ℕ)) : Result (List ℕ) Failure → Type 0 where
  Bad : (k : ℕ) → IsBadTask o.program lines k → Comes o lines (Err (F.BadTask k))
  Small : (tasks : List Task) → AreTasks o.program lines tasks → length lines ≤ most_tasks →
      o.words < words_of_tasks tasks → Comes o lines (Err (F.TooSmall (words_of_tasks tasks) o.words))
  Answered : (tasks : List Task) (text : List ℕ) → AreTasks o.program lines tasks → length lines ≤ most_tasks →
      words_of_tasks tasks ≤ o.words → TaskLines o 0 tasks text → Comes o lines (Ok text)
