use Rattle.std.proofs.Common.{◌≡◌}
use Rattle.lower_frame.specs.code_rules.Types.{numbers}
use Rattle.match_knowledge.specs.View.{known}
use Rattle.lower_frame.specs.lowering_relation.Sights.{kept}
use Rattle.lower_parts.specs.Overlays.{may_be}
use Rattle.lower_parts.proofs.choice.left_of.Given as goal

abbrev pub invariant-loop-number : goal.invariant-loop-number
invariant-loop-number l = l.numbers.items ≡ kept (may_be (known l.known)) (numbers 0 l.number)
