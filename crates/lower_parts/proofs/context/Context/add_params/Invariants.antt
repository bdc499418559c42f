use Rattle.std.proofs.Common.{◌≡◌, drop}
use Rattle.lower_frame.specs.lowering_relation.LoweredFunctions.{with_params}
use Rattle.lower_parts.specs.Writing.{IsInRoom}
use Rattle.lower_parts.specs.Writing.{setting}
use Rattle.lower_parts.proofs.context.Context.add_params.Given as goal

abbrev pub invariant-loop-param : goal.invariant-loop-param
invariant-loop-param l = record {
  place : l.place ≡ l.param-index;
  rest : with_params (setting l.self) l.frame (drop l.place l.params) (drop l.place l.binders) ≡ with_params (setting l.self) l.initial.frame l.params l.binders;
  room : IsInRoom l.initial.frame → IsInRoom l.frame;
}
