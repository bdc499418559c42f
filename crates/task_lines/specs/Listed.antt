-- What a list of tasks is read as.
--
-- The input `rev(Cons(1, Nil), Nil)` and `rev(Nil, Nil)`, a line each, is read as two calls of rev, for which one cell
-- of 2 fields is needed. With a line `rev(Nil)` between them, line 2 is the first that is no task.
use Rattle.std.specs.Prelude.{◌≡◌, ◌-◌, ◌<◌, ◌≤◌, ◌^◌, ℕ, List, length, slice_index_or}
use Rattle.cell_code.specs.declared.code.Code.{Code}
use Rattle.fip_language.specs.declared.limits.TheConstants.{MOST_FIELDS}
use Rattle.session_lines.specs.session_semantics.Lines.{lines_of}
use Rattle.session_lines.specs.session_semantics.Turns.{most_tasks}
use Rattle.task_lines.specs.Called.{Called, AreCalls, needed_by_all}
use Rattle.task_lines.specs.Reading.{AreLinesOf}
use Rattle.task_lines.specs.declared.list.TaskList.{TaskList}

-- The list has these calls, a line of the input for each.
pub record IsListOf (code : Code) (input : List ℕ) (t : TaskList) (cs : List Called) : Type 0 where
  pub calls : AreCalls code (lines_of input) cs
  pub few : length (lines_of input) ≤ most_tasks
  -- where each stands,
  pub lines : AreLinesOf code t.lines.items cs
  -- and how many cells of each size they need
  pub counts : (k : ℕ) → k ≤ MOST_FIELDS → needed_by_all cs k < 2 ^ 64 - 1 →
      slice_index_or t.counts.numbers k 0 ≡ needed_by_all cs k
