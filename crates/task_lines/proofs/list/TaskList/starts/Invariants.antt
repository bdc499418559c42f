use Rattle.std.proofs.Common.{All, drop, List}
use Rattle.fip_tasks.specs.Turns.{CanStart}
use Rattle.task_lines.specs.Called.{Called}
use Rattle.session_values.specs.Readable.{IsReadable}
use Rattle.task_lines.specs.Reading.{AreLinesOf}
use Rattle.task_lines.proofs.Starting.{AreStarting}
use Rattle.task_lines.proofs.list.TaskList.starts.Given as goal

-- the first tasks are started
abbrev pub invariant-loop-line : goal.invariant-loop-line
invariant-loop-line l = record {
  can : All (CanStart l.verified) l.starts.items;
  starting : IsReadable l.verified.code → (cs : List Called) → AreLinesOf l.verified.code l.self.lines.items cs → AreStarting l.verified.code l.room cs l.initial.loader l.loader (drop l.line-index l.self.lines.items) l.starts.items;
}
