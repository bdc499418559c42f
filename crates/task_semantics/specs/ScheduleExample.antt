-- The tasks of the examples: rev(Cons(1, Nil), Cons(3, Nil)) and rev(Cons(2, Nil), Cons(4, Nil)), by the code of the
-- examples of runs. Each has two cells of size 2, needs two calls and 7 steps, and writes its second cell's word into
-- its first cell.
use Rattle.std.specs.Prelude.{ℕ, ◌+◌, false, List, [], ◌∷◌, ◌++◌, Option, None, length, replicate}
use Rattle.run_loading.specs.fip_language.Store.{Cell}
use Rattle.run_loading.specs.machine_semantics.Cells.{Store}
use Rattle.run_loading.specs.machine_semantics.Example.{cons, at}
use Rattle.run_loading.specs.machine_semantics.Runs.{begun}
use Rattle.run_loading.specs.machine_semantics.States.{State}
use Rattle.task_semantics.specs.Schedules.{Shared}
use Rattle.task_semantics.specs.Projected.{Begun}

-- Cons(item, ..) with the word of the rest, and after it Cons(other, Nil)
abbrev pub cells_of : ℕ → ℕ → ℕ → List (Option Cell)
cells_of item rest other = cons item rest ∷ None ∷ None ∷ cons other 0 ∷ None ∷ None ∷ []

abbrev pub store_of : List (Option Cell) → Store
store_of cells = record { cells = cells; released = replicate (length cells) false }

-- the cells of both, at 0 and 3 and at 6 and 9, before the first step and when both are done
abbrev pub both : Store
both = store_of (cells_of 1 0 3 ++ cells_of 2 0 4)

abbrev pub both_done : Store
both_done = store_of (cells_of 1 7 3 ++ cells_of 2 19 4)

-- rev is at an instruction and has these words in its first registers
abbrev pub rev_at : ℕ → Store → ℕ → ℕ → ℕ → State
rev_at i store v w x = at i store (v ∷ w ∷ x ∷ 0 ∷ 0 ∷ 0 ∷ 0 ∷ [])

-- both tasks, with so many calls each
abbrev pub two_tasks : ℕ → Shared
two_tasks calls = record {
  store = both;
  runs = begun (rev_at 0 both 1 7 0) calls ∷ begun (rev_at 0 both 13 19 0) calls ∷ [];
}

-- turn by turn, and the second task's turns first
abbrev pub by_turns : List ℕ
by_turns = 0 ∷ 1 ∷ 0 ∷ 1 ∷ 0 ∷ 1 ∷ 0 ∷ 1 ∷ 0 ∷ 1 ∷ 0 ∷ 1 ∷ 0 ∷ 1 ∷ []

abbrev pub second_first : List ℕ
second_first = replicate 7 1 ++ replicate 7 0

-- how each begins alone, and where its cells are in the shared store
abbrev pub first_task : Begun
first_task = record {
  function = 0;
  state = rev_at 0 (store_of (cells_of 1 0 3)) 1 7 0;
  calls = 2;
  places = λ p. p;
}

abbrev pub second_task : Begun
second_task = record {
  function = 0;
  state = rev_at 0 (store_of (cells_of 2 0 4)) 1 7 0;
  calls = 2;
  places = λ p. 6 + p;
}

abbrev pub tasks_alone : List Begun
tasks_alone = first_task ∷ second_task ∷ []
