-- For the theorem on schedules: how a task that has ended among others ended alone, and how its function ends on trees.
--
-- rev(Cons(2, Nil), Cons(4, Nil)), the second of two tasks, ends with the word 13, and alone with the word 1, after
-- seven steps. Each of these stands for Cons(2, Cons(4, Nil)) in its store, and on trees the end is this value.
use Rattle.std.specs.Prelude.{◌≡◌, ℕ}
use Rattle.run_loading.specs.fip_language.Meaning.{Answer}
use Rattle.run_loading.specs.machine_semantics.Cells.{Store}
use Rattle.run_loading.specs.machine_semantics.Runs.{End, Ends}
use Rattle.run_loading.specs.machine_semantics.States.{State}
use Rattle.run_loading.specs.machine_semantics.Steps.{Kinds}
use Rattle.run_loading.specs.cell_code.Plain.{PlainCode, results}
use Rattle.run_loading.specs.tree_refinement.Runs as A
use Rattle.run_loading.specs.tree_semantics.Runs.{Over, after, entry, begun}
use Rattle.run_loading.specs.tree_semantics.States as U
use Rattle.task_semantics.specs.Projected.{Begun, IsSameEnd}
use Rattle.task_semantics.specs.Laid.{Task}

-- Alone the task's run ends so, with as many calls left and after as many steps, as it ended over the shared store.
pub record EndsAlone (c : PlainCode) (before : Kinds) (b : Begun) (shared : Store) (e : End) (left steps : ℕ) : Type 0
  where
    pub end : End
    pub last : State
    pub ends : Ends before c b.state b.calls end last left steps
    pub same : IsSameEnd c b.function b.places last.store shared end e

-- On trees the run of the task's function on its arguments, with its calls and frames, ends so.
pub record EndsOnTrees (c : PlainCode) (t : Task) (last : State) (e : End) (left steps : ℕ) : Type 0 where
  pub enough : ℕ
  pub answer : Answer
  pub state : U.State
  pub is : after c enough (begun (entry t.function t.arguments t.frames) t.calls)
      ≡ Over answer state left steps
  pub same : A.IsSameEnd c.types (results c t.function) last left e answer
