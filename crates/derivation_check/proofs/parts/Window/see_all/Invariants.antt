use Rattle.std.proofs.Common.{◌≡◌, ◌<◌, ◌+◌, ℕ, take}
use Rattle.ownership_calculus.specs.Terms.{given}
use Rattle.derivation_check.specs.Places.{Marked}
use Rattle.derivation_check.proofs.parts.Window.see_all.Given as goal

abbrev pub invariant-loop-variable : goal.invariant-loop-variable
invariant-loop-variable l = record {
  start : l.self.start ≡ l.initial.self.start;
  seen : (c : ℕ → ℕ) → Marked l.initial.self.seen l.initial.self.start l.whole c → Marked l.self.seen l.initial.self.start l.whole (λ x. c x + given x (take l.variable-index l.variables));
  inside : (x : ℕ) → given x l.whole ≡ 0 → given x (take l.variable-index l.variables) ≡ 0;
}
