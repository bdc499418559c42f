-- For the theorem that each task ends in what it would end in alone: schedules, by which tasks take turns over one
-- store.
--
-- A schedule is a list of tasks' numbers. In its turn a task does one step, on the cells as the turns before left them;
-- no other task's frames or calls change. A task that has ended stays as it is, and so do the cells in its turn. Alone,
-- in a store of its own cells, a task does as many steps as its number occurs in the schedule.
--
-- Two tasks rev(Cons(1, Nil), Cons(3, Nil)) and rev(Cons(2, Nil), Cons(4, Nil)) have two cells each. After the turns 0,
-- 1, 0, 1, .. of both, and also after all turns of task 1 and then all of task 0, each has given its list, in its own
-- cells.
use Rattle.std.specs.Prelude.{◌≡◌, ℕ, suc, List, [], ◌∷◌, ◌++◌, Option, Some, None, replicate, slice_get}
use Rattle.std.specs.Prelude.{slice_set}
use Rattle.run_loading.specs.fip_language.Every.{Every}
use Rattle.run_loading.specs.fip_language.Store.{count}
use Rattle.run_loading.specs.cell_code.Plain.{PlainCode}
use Rattle.run_loading.specs.machine_semantics.Cells.{Store}
use Rattle.run_loading.specs.machine_semantics.Steps.{Kinds}
use Rattle.run_loading.specs.machine_semantics.Runs.{Run, Going, Over, state_of, later, after}

-- one store, and the run of each task; a run's own store is not looked at
pub record Shared : Type 0 where
  pub store : Store
  pub runs : List Run

-- the run over these cells
abbrev pub in_store : Store → Run → Run
in_store s (Going t left steps) = Going (record t { store = s }) left steps
in_store s (Over e t left steps) = Over e (record t { store = s }) left steps

-- its turn is over: the cells are those that it left
abbrev pub settled : Shared → ℕ → Run → Shared
settled t k r = record { store = (state_of r).store; runs = slice_set t.runs k r }

abbrev pub turned : Kinds → PlainCode → Shared → ℕ → Option Run → Shared
turned kinds code t k None = t
turned kinds code t k (Some r) = settled t k (later kinds code (in_store t.store r))

-- after a turn of task k
abbrev pub turn : Kinds → PlainCode → Shared → ℕ → Shared
turn kinds code t k = turned kinds code t k (slice_get t.runs k)

-- after a schedule
abbrev pub scheduled : Kinds → PlainCode → List ℕ → Shared → Shared
scheduled kinds code [] t = t
scheduled kinds code (k ∷ ks) t = scheduled kinds code ks (turn kinds code t k)

-- the run of task k alone, which begins so, when the schedule is over
abbrev pub alone : Kinds → PlainCode → ℕ → List ℕ → Run → Run
alone kinds code k schedule first = after kinds code (count k schedule) first

-- ---- to the ends

-- all turns of the tasks from number k on, in order, each having so many
abbrev pub in_order : ℕ → List ℕ → List ℕ
in_order k [] = []
in_order k (n ∷ ns) = replicate n k ++ in_order (suc k) ns

abbrev pub IsOver : Run → Type 0
IsOver (Going s left steps) = ⊥
IsOver (Over e s left steps) = Unit {0}

-- The schedule begins with these turns, goes on with the tasks in order, and leaves none that hasn't ended.
pub record EndsAll (kinds : Kinds) (code : PlainCode) (first : Shared) (drawn schedule : List ℕ) : Type 0 where
  pub numbers : List ℕ
  pub is : schedule ≡ drawn ++ in_order 0 numbers
  pub over : Every IsOver (scheduled kinds code schedule first).runs
