use Rattle.std.proofs.Common.{◌≡◌, ◌<◌, ◌+◌, ℕ, length, get_or, true, false}
use Rattle.derivation_check.proofs.parts.Window.is_full.Given as goal

abbrev pub invariant-loop-slot : goal.invariant-loop-slot
invariant-loop-slot l = (k : ℕ) → k < l.slot → l.self.start + k < length l.whole → get_or l.self.seen k false ≡ true
