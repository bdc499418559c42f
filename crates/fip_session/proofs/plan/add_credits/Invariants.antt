use Rattle.std.proofs.Common.{◌≡◌, ℕ, ◌+◌, ◌<◌, ◌≤◌, ◌^◌, length, take}
use Rattle.fip_language.specs.Store.{count}
use Rattle.value_text.specs.Counting.{count_at}
use Rattle.value_text.specs.Loaded.{AreSizes}
use Rattle.fip_session.proofs.plan.add_credits.Given as goal

abbrev pub invariant-loop-size : goal.invariant-loop-size
invariant-loop-size l = AreSizes l.credits → ((k : ℕ) → k ≤ 16 → count_at l.initial.cells k + length l.credits < 2 ^ 64) → (k : ℕ) → k ≤ 16 → count_at l.cells k ≡ count_at l.initial.cells k + count k (take l.size-index l.credits)
