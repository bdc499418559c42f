-- The task stays along the run, and no call is left.
use Rattle.std.proofs.Common.{ℕ}
use Rattle.fip_machine.specs.Along.{Origin}
use Rattle.fip_machine.specs.Taped.{AlongTaped}
use Rattle.fip_machine.proofs.traced.run_to_call.Given as goal

abbrev pub invariant-loop-stack : goal.invariant-loop-stack
invariant-loop-stack l = record {
  along : (o : Origin) (limit : ℕ) → AlongTaped o limit l.initial.stack l.initial.recorder 0 → AlongTaped o limit l.stack l.recorder 0;
}

abbrev pub decreases-loop-stack : goal.decreases-loop-stack
decreases-loop-stack l = l.stack.weight
