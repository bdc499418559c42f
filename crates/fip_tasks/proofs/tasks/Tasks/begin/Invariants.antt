use Rattle.std.proofs.Common.{◌≡◌, ℕ, Some, true, slice_get, length}
use Rattle.fip_tasks.specs.Landing.{standing, IsNew}
use Rattle.fip_tasks.specs.declared.task.Start.{Start}
use Rattle.fip_tasks.specs.declared.task.Task.{Task}
use Rattle.fip_tasks.proofs.Turning.{AreHeld, AreBegun}
use Rattle.fip_tasks.proofs.tasks.Tasks.begin.Given as goal

-- a task was made for each start so far, and is new
abbrev pub invariant-loop-start : goal.invariant-loop-start
invariant-loop-start l = record {
  number : length l.tasks.items ≡ l.start-index;
  each : (k : ℕ) (b : Start) (t : Task) → slice_get l.starts k ≡ Some b → slice_get l.tasks.items k ≡ Some t → IsNew l.verified b (standing t);
  begun : AreBegun l.verified l.starts l.tasks.items;
  held : l.fn.counts ≡ true → AreHeld l.verified l.fn.loader.cells l.starts l.tasks.items;
}
