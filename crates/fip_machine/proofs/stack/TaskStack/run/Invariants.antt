-- The task stays along the run, with as many calls left.
use Rattle.std.proofs.Common.{◌≡◌, nat_eq, not, false, [], None, vec_len}
use Rattle.std.specs.Vec.{vec_capacity}
use Rattle.machine_cells.specs.Counting.{CountsReleased}
use Rattle.machine_cells.specs.Small.{IsSmall}
use Rattle.fip_machine.specs.Tasks.{IsTask}
use Rattle.fip_machine.specs.Along.{Origin, IsAlong, task_of, stored}
use Rattle.fip_machine.proofs.stack.TaskStack.run.Given as goal

abbrev pub invariant-loop-left : goal.invariant-loop-left
invariant-loop-left g l =
    let cells = g.C.Cells.cells in
    let released = g.C.Cells.released in
    let pushed = g.C.Cells.pushed in
    let i = l.self-inside in
    record {
      task : IsTask i.verified.now i.bounds i.words.items (vec_capacity i.words) (vec_len i.beside.spare) i.cursor i.ended;
      going : i.ended ≡ None;
      code : i.verified.now ≡ l.fn.self.code;
      small : IsSmall (cells l.fn.cells) → IsSmall (cells l.cells);
      empty : pushed l.fn.cells ≡ [] → pushed l.cells ≡ [];
      counted : not (nat_eq g.row.IN_LOOP 0) ≡ false → CountsReleased (cells l.fn.cells) (released l.fn.cells) l.fn.self.freed (cells l.cells) (released l.cells) i.beside.freed;
      along : (o : Origin) → IsAlong o l.fn.self (stored (cells l.fn.cells) (released l.fn.cells) (pushed l.fn.cells)) l.calls → IsAlong o (task_of i.verified.now i.bounds i.words.items i.cursor i.beside) (stored (cells l.cells) (released l.cells) (pushed l.cells)) l.left;
    }

abbrev pub decreases-loop-left : goal.decreases-loop-left
decreases-loop-left g l = l.left
