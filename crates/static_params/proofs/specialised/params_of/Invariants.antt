use Rattle.std.proofs.Common.{◌≡◌, ◌++◌, map, drop}
use Rattle.fip_base.specs.CoreView as V
use Rattle.static_params.specs.FlatView.{IsMaking, Stays, making, parameter_in}
use Rattle.static_params.proofs.specialised.params_of.Given as goal

abbrev pub invariant-loop-parameter : goal.invariant-loop-parameter
invariant-loop-parameter l = record {
  stays : IsMaking l.initial.flattening → Stays l.initial.flattening l.flattening;
  row : IsMaking l.initial.flattening → l.params.items ++ map (parameter_in (making l.initial.flattening)) (map V.parameter (drop l.parameter-index l.parameters)) ≡ map (parameter_in (making l.initial.flattening)) (map V.parameter l.parameters);
}
