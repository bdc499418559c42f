-- How tasks are started whose arguments are loaded, one after another or anywhere, and what one of them has answered.
--
-- rev(Cons(1, Nil), Cons(3, Nil)) and rev(Cons(2, Nil), Cons(4, Nil)) have two cells each: the first is started with
-- the words 1 and 7, the second with 13 and 19. The second has answered Value once it has the word 13 as its result,
-- which stands for Cons(2, Cons(4, Nil)): so its function ends on trees.
use Rattle.std.specs.Prelude.{◌≡◌, ℕ, ◌+◌, List, [], ◌∷◌, Some, length, slice_get}
use Rattle.fip_tasks.specs.task_semantics.Lying.{Lying, call_words}
use Rattle.machine_correctness.specs.machine_semantics.Cells.{Store}
use Rattle.machine_correctness.specs.machine_semantics.Runs.{End}
use Rattle.machine_correctness.specs.machine_semantics.States.{State}
use Rattle.fip_tasks.specs.cell_code.Plain.{PlainCode}
use Rattle.fip_tasks.specs.task_semantics.Ended.{EndsOnTrees}
use Rattle.fip_tasks.specs.task_semantics.Laid.{Task, task_places, task_words}
use Rattle.fip_tasks.specs.Shown.{HasEnded}
use Rattle.fip_tasks.specs.Turns.{Standing}
use Rattle.fip_tasks.specs.declared.task.Start.{Start}

-- The start of a call whose cells have n places before them.
pub record IsStartOf (n : ℕ) (t : Task) (b : Start) : Type 0 where
  pub entry : b.entry ≡ t.function
  pub words : b.words ≡ task_words n t
  pub frames : b.frames ≡ t.frames
  pub calls : b.calls ≡ t.calls

abbrev pub AreStartsOf : ℕ → List Task → List Start → Type 0
AreStartsOf n [] [] = Unit {0}
AreStartsOf n (t ∷ ts) (b ∷ bs) = IsStartOf n t b × AreStartsOf (n + length (task_places n t)) ts bs
AreStartsOf n ts bs = ⊥

-- The start of a call whose cells lie anywhere in the store, and those of a list of them.
pub record IsStartAt (l : Lying) (b : Start) : Type 0 where
  pub entry : b.entry ≡ l.task.function
  pub words : b.words ≡ call_words l
  pub frames : b.frames ≡ l.task.frames
  pub calls : b.calls ≡ l.task.calls

pub record AreStartsAt (ls : List Lying) (starts : List Start) : Type 0 where
  pub number : length starts ≡ length ls
  pub each : (k : ℕ) (l : Lying) (b : Start) → slice_get ls k ≡ Some l → slice_get starts k ≡ Some b → IsStartAt l b

-- The task has ended as its function ends on trees with its arguments; its results are words over this store.
pub record HasAnswered (c : PlainCode) (t : Task) (store : Store) (a : Standing) : Type 0 where
  pub end : End
  pub last : State
  pub left : ℕ
  pub steps : ℕ
  pub ended : HasEnded a end
  pub trees : EndsOnTrees c t (record last { store = store }) end left steps
