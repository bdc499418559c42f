use Rattle.std.proofs.Common.{◌≡◌}
use Rattle.derivation_walk.specs.Tables.{rows, empty_rows}
use Rattle.derivation_walk.proofs.uses.empty_rows.Given as goal

abbrev pub invariant-loop-i : goal.invariant-loop-i
invariant-loop-i l = rows l.places.items ≡ empty_rows l.i
