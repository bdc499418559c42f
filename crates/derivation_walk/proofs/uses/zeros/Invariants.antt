use Rattle.std.proofs.Common.{◌≡◌}
use Rattle.derivation_walk.specs.Tables.{zeros}
use Rattle.derivation_walk.proofs.uses.zeros.Given as goal

abbrev pub invariant-loop-i : goal.invariant-loop-i
invariant-loop-i l = l.zeros.items ≡ zeros l.i
