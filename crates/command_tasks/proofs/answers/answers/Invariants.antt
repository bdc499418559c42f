use Rattle.std.proofs.Common.{◌≡◌, List, length, take}
use Rattle.fip_tasks.specs.machine_semantics.Steps.{Kinds}
use Rattle.code_verify.specs.Checked.{Checked}
use Rattle.fip_language.specs.Meaning.{Answer}
use Rattle.fip_tasks.specs.task_semantics.Schedules.{Shared}
use Rattle.command_tasks.specs.Telling.{AreTaskLines, CanRun, EndAs, ShowsSome}
use Rattle.command_tasks.proofs.answers.answers.Given as goal

-- the tasks stay as many, they are where some schedule leads, and those before k have their lines
abbrev pub invariant-loop-k : goal.invariant-loop-k
invariant-loop-k l = record {
  number : length l.tasks.tasks ≡ length l.starts;
  shows : (v : Checked) (kinds : Kinds) (first : Shared) → CanRun v kinds first → ShowsSome v kinds first l.initial.tasks → ShowsSome v kinds first l.tasks;
  lines : (v : Checked) (kinds : Kinds) (first : Shared) (means : List Answer) → v.code ≡ l.code → CanRun v kinds first → ShowsSome v kinds first l.initial.tasks → length means ≡ length l.starts → EndAs v kinds first l.starts means → AreTaskLines l.code 0 (take l.k l.starts) (take l.k means) l.out.items;
}
