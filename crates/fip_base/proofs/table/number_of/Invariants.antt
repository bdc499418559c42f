use Rattle.std.proofs.Common.{ℕ, ◌<◌}
use Rattle.fip_base.specs.TableView.{IsNamed}
use Rattle.fip_base.proofs.table.number_of.Given as goal

abbrev pub invariant-loop-i : goal.invariant-loop-i
invariant-loop-i l = (d : ℕ) → d < l.i → IsNamed l.constructors l.name d → ⊥
