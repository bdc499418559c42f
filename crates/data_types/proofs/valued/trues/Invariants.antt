use Rattle.std.proofs.Common.{◌≡◌}
use Rattle.data_types.specs.Marks.{trues}
use Rattle.data_types.proofs.valued.trues.Given as goal

abbrev pub invariant-loop : goal.invariant-loop
invariant-loop l = l.bits.items ≡ trues l.counter
