use Rattle.std.proofs.Common.{◌≡◌, ◌<◌, length}
use Rattle.fip_tasks.specs.machine_semantics.Steps.{Kinds}
use Rattle.code_verify.specs.Checked.{Checked}
use Rattle.fip_tasks.specs.task_semantics.Schedules.{Shared}
use Rattle.command_tasks.specs.Telling.{CanRun, ShowsSome}
use Rattle.command_tasks.proofs.turns.take_turns.Given as goal

-- the tasks stay as many, what is drawn has 31 bits, and they are where some schedule leads
abbrev pub invariant-loop : goal.invariant-loop
invariant-loop l = record {
  number : length l.tasks.tasks ≡ length l.initial.tasks.tasks;
  drawn : l.drawn < 2147483648;
  shows : (v : Checked) (kinds : Kinds) (first : Shared) → CanRun v kinds first → ShowsSome v kinds first l.initial.tasks → ShowsSome v kinds first l.tasks;
}
