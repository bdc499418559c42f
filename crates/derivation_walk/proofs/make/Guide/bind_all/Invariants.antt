use Rattle.std.proofs.Common.{◌≡◌, drop}
use Rattle.derivation_walk.specs.Guides.{guided}
use Rattle.derivation_walk.specs.Walked.{bound_all}
use Rattle.derivation_walk.proofs.make.Guide.bind_all.Given as goal

abbrev pub invariant-loop-binder : goal.invariant-loop-binder
invariant-loop-binder l = bound_all (guided l.self) l.variables.items (drop l.binder-index l.binders) ≡ bound_all (guided l.self) l.initial.variables.items l.binders
