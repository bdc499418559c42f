use Rattle.std.proofs.Common.{◌≡◌, ◌++◌, drop}
use Rattle.derivation_walk.specs.Guides.{guided, asking}
use Rattle.derivation_walk.specs.Walked.{those}
use Rattle.derivation_walk.proofs.make.Guide.those_in.Given as goal

abbrev pub invariant-loop-number : goal.invariant-loop-number
invariant-loop-number l = l.found.items ++ those (guided l.self) (asking l.asked) (drop l.number-index l.variables) ≡ those (guided l.self) (asking l.asked) l.variables
