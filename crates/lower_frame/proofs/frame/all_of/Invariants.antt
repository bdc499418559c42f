use Rattle.std.proofs.Common.{◌≡◌}
use Rattle.lowering_relation.specs.code_rules.Types.{numbers}
use Rattle.lower_frame.proofs.frame.all_of.Given as goal

abbrev pub invariant-loop-number : goal.invariant-loop-number
invariant-loop-number l = l.numbers.items ≡ numbers 0 l.number
