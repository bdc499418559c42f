use Rattle.std.proofs.Common.{◌<◌, length, All, subst}
use Rattle.std.specs.Prelude.{IfOk}
use Rattle.cell_code.specs.declared.code.Code.{Code}
use Rattle.task_lines.proofs.list.TaskList.of.Goals as goal

pub returns-clause-there : goal.returns-clause-there
returns-clause-there c = subst (λ (d : Code). IfOk c.tasks_of.result (λ t. All (λ l. l.entry < length d.functions.items) t.lines.items)) c.code.ensures.same c.tasks_of.ensures.there
