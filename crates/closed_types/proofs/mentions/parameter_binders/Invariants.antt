use Rattle.std.proofs.Common.{◌≡◌, length}
use Rattle.closed_types.proofs.mentions.parameter_binders.Given as goal

abbrev pub invariant-loop-parameter : goal.invariant-loop-parameter
invariant-loop-parameter l = length l.binders.items ≡ l.parameter-index
