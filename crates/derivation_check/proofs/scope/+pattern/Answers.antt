use Rattle.std.proofs.Common.{◌∙◌}
use Rattle.derivation_check.proofs.Frames.{patterns_found, patterns_skipped}
use Rattle.derivation_check.proofs.scope.+pattern.Goals as goal

pub in_patterns-returns-in-Some-clause-some : goal.in_patterns-returns-in-Some-clause-some
in_patterns-returns-in-Some-clause-some t c = c.loop-pattern.invariant ∙ patterns_found c.args.patterns.now c.loop-pattern.pattern-index c.args.number c.pattern-item.result c.in-Some.found.now c.loop-pattern-test.true c.pattern-item.is c.in-Some.ensures.some

pub in_patterns-loop-pattern-preserved : goal.in_patterns-loop-pattern-preserved
in_patterns-loop-pattern-preserved t c = c.loop-pattern.invariant ∙ patterns_skipped c.args.patterns.now c.loop-pattern.pattern-index c.args.number c.pattern-item.result c.loop-pattern-test.true c.pattern-item.is c.in-None.ensures.none
