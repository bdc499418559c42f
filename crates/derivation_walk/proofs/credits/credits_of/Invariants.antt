use Rattle.std.proofs.Common.{◌≡◌, ◌-◌, ◌++◌}
use Rattle.derivation_walk.specs.Walked.{credits, credits_from}
use Rattle.derivation_walk.proofs.credits.credits_of.Given as goal

abbrev pub invariant-loop-size : goal.invariant-loop-size
invariant-loop-size l = l.credits.items ++ credits_from l.sizes l.size (17 - l.size) ≡ credits l.sizes
