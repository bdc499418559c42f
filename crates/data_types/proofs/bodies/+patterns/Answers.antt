use Rattle.std.proofs.Common.{◌∙◌, refl, List, map}
use Rattle.fip_base.specs.CoreView.{pattern, patterns_of}
use Rattle.fip_base.specs.declared.core_form.Pattern.{Pattern}
use Rattle.data_types.specs.Faults.{pattern_faults, patterns_faults}
use Rattle.data_types.proofs.Repeats.{walk_step}
use Rattle.data_types.proofs.bodies.+patterns.Goals as goal

pub check_patterns-loop-pattern-preserved : goal.check_patterns-loop-pattern-preserved
check_patterns-loop-pattern-preserved t c =
    walk_step (λ p. pattern_faults c.args.scope.now (pattern p)) (λ ps. patterns_faults c.args.scope.now (patterns_of (map pattern ps))) (λ (x : Pattern) (xs : List Pattern). refl) c.args.patterns.now c.loop-pattern.pattern-index c.pattern-item.result c.loop-pattern.least c.check_pattern.new.least c.loop-pattern-test.true c.pattern-item.is c.in_ok-check_pattern.ensures
    ∙ c.loop-pattern.invariant
