use Rattle.std.proofs.Common.{◌≡◌, ◌++◌, drop}
use Rattle.derivation_walk.specs.Guides.{guided, asking}
use Rattle.derivation_walk.specs.Walked.{used}
use Rattle.derivation_walk.proofs.make.Guide.used_in.Given as goal

abbrev pub invariant-loop-number : goal.invariant-loop-number
invariant-loop-number l = l.found.items ++ used (guided l.self) (asking l.bound) (drop l.number-index l.variables) ≡ used (guided l.self) (asking l.bound) l.variables
