-- The task stays along the run, and a call is left.
use Rattle.std.proofs.Common.{ℕ}
use Rattle.fip_machine.specs.Along.{Origin}
use Rattle.fip_machine.specs.Taped.{AlongTaped}
use Rattle.fip_machine.proofs.traced.run_to_entry.Given as goal

abbrev pub invariant-loop-over : goal.invariant-loop-over
invariant-loop-over l = record {
  along : (o : Origin) (limit left : ℕ) → AlongTaped o limit l.initial.stack l.initial.recorder left → AlongTaped o limit l.stack l.recorder left;
}

abbrev pub decreases-loop-over : goal.decreases-loop-over
decreases-loop-over l = l.stack.weight
