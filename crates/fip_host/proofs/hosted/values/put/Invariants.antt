-- Nothing was written yet, and no number so far is free.
use Rattle.std.proofs.Common.{◌≡◌, drop}
use Rattle.fip_host.specs.Keeping.{count_free}
use Rattle.fip_host.proofs.hosted.values.put.Given as goal

abbrev pub invariant-loop-number : goal.invariant-loop-number
invariant-loop-number l = record {
  same : l.kept ≡ l.initial.kept;
  none : count_free (drop l.number l.kept) ≡ count_free l.kept;
}
