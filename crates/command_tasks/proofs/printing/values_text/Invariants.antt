use Rattle.fip_language.specs.Values.{Values}
use Rattle.std.proofs.Common.{[]}
use Rattle.fip_tasks.specs.machine_cells.Small.{IsSmall}
use Rattle.command_session.specs.command_run.machine_correctness.Meant.{ArePrintable}
use Rattle.command_session.specs.command_run.session_semantics.Turns.{joined}
use Rattle.command_tasks.proofs.Joining.{IsJoining}
use Rattle.command_tasks.proofs.printing.values_text.Given as goal

-- what is put and what is left make the whole
abbrev pub invariant-loop-ty : goal.invariant-loop-ty
invariant-loop-ty l = (vs : Values) → IsSmall l.cells.cells → ArePrintable l.table l.cells.cells l.types l.words vs → IsJoining l.table l.cells.cells l.is_first l.ty-iterator.a.rest.now l.ty-iterator.b.rest.now l.text.items (joined l.table l.types vs [])
