use Rattle.std.proofs.Common.{subst}
use Rattle.data_types.specs.View as v
use Rattle.data_types.specs.Steps as s
use Rattle.data_types.proofs.Stepping.{step_goes}
use Rattle.data_types.proofs.marking.settle.Goals as goal

pub returns-then-not-changed-clause-done : goal.returns-then-not-changed-clause-done
returns-then-not-changed-clause-done c = λ e. c.in_ok-changed.ensures.done c.if-not-changed.true

pub returns-clause-step : goal.returns-clause-step
returns-clause-step c =
    step_goes (v.declarations c.args.declared.now) c.args.claims.now c.visit_claim.new.claims c.drain.new.claims (subst (s.IsStep (v.declarations c.args.declared.now) c.args.claims.now c.visit_claim.new.claims) c.if-not-changed.false c.in_ok-changed.ensures.step) c.in_ok-drain.ensures
