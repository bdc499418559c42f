use Rattle.std.proofs.Common.{◌≡◌, ◌<◌, ◌≤◌, ℕ, length}
use Rattle.std.specs.Prelude.{Some, slice_get}
use Rattle.call_groups.proofs.search.kept_to.Given as goal

abbrev pub invariant-loop-kept : goal.invariant-loop-kept
invariant-loop-kept l = record {
  within : l.kept ≤ length l.pieces;
  high : (i s : ℕ) → l.kept ≤ i → slice_get l.pieces i ≡ Some s → l.place < s;
}

abbrev pub decreases-loop-kept : goal.decreases-loop-kept
decreases-loop-kept l = l.kept
