use Rattle.std.proofs.Common.{ℕ, ◌<◌}
use Rattle.cell_code.specs.Naming.{IsNamed}
use Rattle.cell_code.proofs.code.first_named.Given as goal

abbrev pub invariant-loop-number : goal.invariant-loop-number
invariant-loop-number l = (d : ℕ) → d < l.number → IsNamed l.functions l.name d → ⊥
