-- What was counted, and what is left to be counted, is all.
use Rattle.std.proofs.Common.{◌≡◌, ◌≤◌, ◌+◌, drop}
use Rattle.fip_host.specs.Keeping.{count_free}
use Rattle.fip_host.proofs.hosted.values.free_numbers.Given as goal

abbrev pub invariant-loop-slot : goal.invariant-loop-slot
invariant-loop-slot l = record {
  all : l.free + count_free (drop l.slot-index l.kept) ≡ count_free l.kept;
  few : l.free ≤ l.slot-index;
}
