use Rattle.std.proofs.Common.{◌≡◌, length, ◌-◌}
use Rattle.fip_rules.specs.Stands.{left_to}
use Rattle.fip_rules.proofs.state.State.leave.Given as goal

abbrev pub invariant-loop-self : goal.invariant-loop-self
invariant-loop-self l = left_to l.kept l.self ≡ left_to l.kept l.initial.self

abbrev pub decreases-loop-self : goal.decreases-loop-self
decreases-loop-self l = length l.self.walked.scope - l.kept
