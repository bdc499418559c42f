use Rattle.std.proofs.Common.{◌≡◌, drop}
use Rattle.lower_frame.specs.lowering_relation.Reading.{contains}
use Rattle.lower_parts.proofs.choice.contains.Given as goal

abbrev pub invariant-loop-one : goal.invariant-loop-one
invariant-loop-one l = contains l.register (drop l.one-index l.read) ≡ contains l.register l.read
