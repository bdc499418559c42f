use Rattle.std.proofs.Common.{◌≡◌, drop}
use Rattle.lower_frame.specs.lowering_relation.LoweredFunctions.{with_credits}
use Rattle.lower_parts.specs.Writing.{IsInRoom}
use Rattle.lower_parts.proofs.context.add_credits.Given as goal

abbrev pub invariant-loop-size : goal.invariant-loop-size
invariant-loop-size l = record {
  rest : with_credits l.frame (drop l.size-index l.sizes) ≡ with_credits l.initial.frame l.sizes;
  room : IsInRoom l.initial.frame → IsInRoom l.frame;
}
