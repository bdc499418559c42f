-- The numbers of the sizes so far.
use Rattle.std.proofs.Common.{◌≡◌, ◌+◌, ◌<◌, ℕ, length}
use Rattle.std.specs.Prelude.{slice_index_or}
use Rattle.fip_language.specs.declared.limits.TheConstants.{MOST_FIELDS}
use Rattle.fip_tasks.specs.Landing.{standing}
use Rattle.fip_tasks.specs.Gauged.{left_of}
use Rattle.fip_tasks.proofs.task.Task.held.Given as goal

abbrev pub invariant-loop-k : goal.invariant-loop-k
invariant-loop-k l = record {
  done : (j : ℕ) → j < l.k → slice_index_or l.held j 0 ≡ left_of (standing l.self) (j + 1);
  wide : length l.held ≡ MOST_FIELDS;
}
