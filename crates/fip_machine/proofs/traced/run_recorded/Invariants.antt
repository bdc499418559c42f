-- The task is along the run, with as many calls left.
use Rattle.std.proofs.Common.{ℕ}
use Rattle.fip_machine.specs.Along.{Origin, IsReady}
use Rattle.fip_machine.specs.Taped.{AlongTaped, IsFirstTape}
use Rattle.fip_machine.proofs.traced.run_recorded.Given as goal

abbrev pub invariant-loop-left : goal.invariant-loop-left
invariant-loop-left l = record {
  along : (o : Origin) (limit : ℕ) → IsReady o l.initial.stack l.initial.recorder.store l.calls → IsFirstTape o limit l.initial.recorder.tape → AlongTaped o limit l.stack l.recorder l.left;
}

abbrev pub decreases-loop-left : goal.decreases-loop-left
decreases-loop-left l = l.left
