use Rattle.std.proofs.Common.{◌≡◌, [], drop}
use Rattle.derivation_walk.specs.Guides.{guided}
use Rattle.derivation_walk.specs.Walked.{owned_parameters}
use Rattle.derivation_walk.proofs.make.Guide.owned_parameters.Given as goal

abbrev pub invariant-loop-param : goal.invariant-loop-param
invariant-loop-param l = record {
  place : l.binder ≡ l.param-index;
  owned : owned_parameters (guided l.self) l.variables.items l.binder (drop l.param-index l.params) ≡ owned_parameters (guided l.self) [] 0 l.params;
}
