use Rattle.std.proofs.Common.{◌≡◌, drop}
use Rattle.derivation_walk.specs.Seen.{world_of, seen_of, bind_parameters}
use Rattle.derivation_walk.proofs.found.bind_parameters.Given as goal

abbrev pub invariant-loop-param : goal.invariant-loop-param
invariant-loop-param l = record {
  place : l.binder ≡ l.param-index;
  seen : bind_parameters (world_of l.context) (seen_of l.found) l.binder (drop l.param-index l.params) ≡ bind_parameters (world_of l.context) (seen_of l.initial.found) 0 l.params;
}
