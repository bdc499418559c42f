use Rattle.std.proofs.Common.{◌≡◌, ◌++◌, map, drop}
use Rattle.static_params.specs.FlatProgram.{credit_size}
use Rattle.static_params.proofs.specialised.sizes_of.Given as goal

abbrev pub invariant-loop-mark : goal.invariant-loop-mark
invariant-loop-mark l = l.sizes.items ++ map credit_size (drop l.mark-index l.credits) ≡ map credit_size l.credits
