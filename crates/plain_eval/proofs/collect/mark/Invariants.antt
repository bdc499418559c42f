use Rattle.std.proofs.Common.{◌≡◌, ◌≤◌, ℕ, length, take}
use Rattle.plain_eval.specs.Moving.{Marked, MarkedBelow}
use Rattle.plain_eval.proofs.collect.mark.Given as goal

abbrev pub invariant-loop-value : goal.invariant-loop-value
invariant-loop-value l = record {
  marks : MarkedBelow l.limit l.reached.items (take l.value-index l.values);
  keeps : (r : ℕ) → Marked l.fn.reached.items r → Marked l.reached.items r;
  others : (r : ℕ) → l.limit ≤ r → Marked l.reached.items r → Marked l.fn.reached.items r;
  length : length l.reached.items ≡ length l.fn.reached.items;
}
