-- The running frame stays in its place, and the task along its run. Each step lessens what is left of the calls, the frames and the instructions.
use Rattle.std.proofs.Common.{◌≡◌, ◌+◌, ◌*◌, ◌<◌, ◌≤◌, nat_eq, not, false, [], length, vec_len}
use Rattle.machine_cells.specs.Counting.{CountsReleased}
use Rattle.machine_cells.specs.Small.{IsSmall}
use Rattle.machine_step.specs.Placed.{IsPlaced, IsRoomy, Waiting, weight}
use Rattle.machine_step.specs.Highest.{IsHigh}
use Rattle.fip_machine.specs.Along.{Origin, IsAlong, task_of, stored}
use Rattle.fip_machine.proofs.stack.burst.Given as goal

abbrev pub invariant-steps : goal.invariant-steps
invariant-steps g l =
    let cells = g.C.Cells.cells in
    let released = g.C.Cells.released in
    let pushed = g.C.Cells.pushed in
    record {
      placed : IsPlaced l.verified l.bounds (length l.words) l.here;
      roomy : IsRoomy l.bounds (length l.words) l.here;
      waiting : Waiting l.verified l.bounds l.words l.here.frames l.here.base;
      spare : vec_len l.beside.spare ≡ vec_len l.initial.beside.spare;
      some : 0 < l.calls;
      fewer : l.calls ≤ l.initial.calls;
      high : IsHigh l.here;
      small : IsSmall (cells l.initial.cells) → IsSmall (cells l.cells);
      empty : pushed l.initial.cells ≡ [] → pushed l.cells ≡ [];
      counted : not (nat_eq g.row.IN_LOOP 0) ≡ false → CountsReleased (cells l.initial.cells) (released l.initial.cells) l.initial.beside.freed (cells l.cells) (released l.cells) l.beside.freed;
      along : (o : Origin) → IsAlong o (task_of l.verified l.bounds l.initial.words l.initial.here l.initial.beside) (stored (cells l.initial.cells) (released l.initial.cells) (pushed l.initial.cells)) l.initial.calls → IsAlong o (task_of l.verified l.bounds l.words l.here l.beside) (stored (cells l.cells) (released l.cells) (pushed l.cells)) l.calls;
    }

abbrev pub decreases-steps : goal.decreases-steps
decreases-steps g l = l.calls * 12884901888 + weight l.here
