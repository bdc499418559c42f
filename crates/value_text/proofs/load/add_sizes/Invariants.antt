use Rattle.std.proofs.Common.{◌≡◌, ℕ, ◌+◌, ◌<◌, ◌≤◌, ◌^◌, length, take}
use Rattle.fip_language.specs.Store.{count}
use Rattle.value_text.specs.Counting.{count_at}
use Rattle.value_text.specs.Loaded.{AreSizes}
use Rattle.value_text.proofs.load.add_sizes.Given as goal

abbrev pub invariant-loop-size : goal.invariant-loop-size
invariant-loop-size l = AreSizes l.credits → ((k : ℕ) → k ≤ 16 → count_at l.initial.counts k + length l.credits < 2 ^ 64) → (k : ℕ) → k ≤ 16 → count_at l.counts k ≡ count_at l.initial.counts k + count k (take l.size-index l.credits)
