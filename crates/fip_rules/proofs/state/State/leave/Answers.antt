use Rattle.std.proofs.Common.{rules, ap, ◌∙◌, length, ◌-◌}
use Rattle.fip_rules.specs.Stands.{left_to}
use Rattle.fip_rules.proofs.Theorems.{left_twice}
use Rattle.fip_rules.proofs.state.State.leave.Goals as goal

pub loop-self-preserved : goal.loop-self-preserved
loop-self-preserved c = ap (left_to c.args.kept) c.in_ok-leave_one.ensures ∙ left_twice c.args.kept (length c.loop-self.self.walked.scope - 1) c.loop-self.self (search rules) ∙ c.loop-self.invariant
