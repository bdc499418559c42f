-- The task stays along the run, and no call is left.
use Rattle.std.proofs.Common.{◌≡◌, []}
use Rattle.machine_cells.specs.Counting.{CountsReleased}
use Rattle.machine_cells.specs.Small.{IsSmall}
use Rattle.fip_machine.specs.Along.{Origin, IsAlong, stored}
use Rattle.fip_machine.proofs.stack.TaskStack.run_to_call.Given as goal

abbrev pub invariant-loop-self : goal.invariant-loop-self
invariant-loop-self g l =
    let cells = g.C.Cells.cells in
    let released = g.C.Cells.released in
    let pushed = g.C.Cells.pushed in
    record {
      code : l.self.code ≡ l.initial.self.code;
      small : IsSmall (cells l.initial.cells) → IsSmall (cells l.cells);
      empty : pushed l.initial.cells ≡ [] → pushed l.cells ≡ [];
      counted : CountsReleased (cells l.initial.cells) (released l.initial.cells) l.initial.self.freed (cells l.cells) (released l.cells) l.self.freed;
      along : (o : Origin) → IsAlong o l.initial.self (stored (cells l.initial.cells) (released l.initial.cells) (pushed l.initial.cells)) 0 → IsAlong o l.self (stored (cells l.cells) (released l.cells) (pushed l.cells)) 0;
    }

abbrev pub decreases-loop-self : goal.decreases-loop-self
decreases-loop-self g l = l.self.weight
