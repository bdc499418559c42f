-- How tasks are started, and what callers see of those that take turns.
--
-- Two tasks that were started with 2 calls each have a call left each, since the entry takes one, and no end. After
-- seven turns of task 0, which reverses a list of one item, it has no call left and the end Value.
use Rattle.std.specs.Prelude.{ℕ, ◌<◌, ◌≤◌, List, Option, length}
use Rattle.fip_language.specs.declared.limits.TheConstants.{MOST_FRAMES}
use Rattle.task_semantics.specs.machine_semantics.Cells.{Store}
use Rattle.code_verify.specs.Checked.{Checked}
use Rattle.fip_machine.specs.declared.machine.Ended.{Ended}
use Rattle.fip_machine.specs.Tasks.{Stand}
use Rattle.fip_tasks.specs.declared.task.Start.{Start}

-- A start of a function of the code, with no more frames than a run may be given.
pub record CanStart (v : Checked) (s : Start) : Type 0 where
  pub entry : s.entry < length v.code.functions.items
  pub frames : s.frames ≤ MOST_FRAMES

-- a task: its frames, the calls that are left, how many cells of each size from 1 it held at the start, and how it
-- ended, where it did
pub record Standing : Type 0 where
  pub stack : Stand
  pub left : ℕ
  pub started : List ℕ
  pub ended : Option Ended

-- tasks by number, the store of all, and the words on its stack, of which there are none between turns
pub record Turns : Type 0 where
  pub tasks : List Standing
  pub store : Store
  pub pushed : List ℕ
