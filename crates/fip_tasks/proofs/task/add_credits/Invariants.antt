-- What was added so far, and what is still to be.
use Rattle.std.proofs.Common.{◌≡◌, ◌+◌, ◌<◌, ◌≤◌, ◌^◌, ℕ, drop}
use Rattle.fip_language.specs.declared.limits.TheConstants.{MOST_FIELDS}
use Rattle.fip_language.specs.Store.{count}
use Rattle.fip_machine.specs.machine_cells.Counting.{freed_of}
use Rattle.fip_tasks.proofs.task.add_credits.Given as goal

abbrev pub invariant-loop-i : goal.invariant-loop-i
invariant-loop-i l = record {
  added : (k : ℕ) → 1 ≤ k → k ≤ MOST_FIELDS → freed_of l.initial.held k + count k l.credits < 2 ^ 64 → freed_of l.held k + count k (drop l.i l.credits) ≡ freed_of l.initial.held k + count k l.credits;
}
