use Rattle.std.proofs.Common.{◌≡◌, ◌++◌, drop, not}
use Rattle.std.specs.Prelude.{filter}
use Rattle.derivation_walk.specs.Guides.{guided}
use Rattle.derivation_walk.specs.Walked.{is_scrutinee}
use Rattle.derivation_walk.proofs.make.Guide.all_but.Given as goal

abbrev pub invariant-loop-number : goal.invariant-loop-number
invariant-loop-number l = l.found.items ++ filter (λ n. not (is_scrutinee (guided l.self) n l.binder)) (drop l.number-index l.variables) ≡ filter (λ n. not (is_scrutinee (guided l.self) n l.binder)) l.variables
