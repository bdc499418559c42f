use Rattle.std.proofs.Common.{length, subst}
use Rattle.fip_rules.specs.Stands.{Rises}
use Rattle.fip_rules.specs.Views.{entry_of}
use Rattle.fip_rules.proofs.Scopes.{rises_front}
use Rattle.fip_rules.proofs.state.State.leave_one.Goals as goal

pub invariant_of-self : goal.invariant_of-self
invariant_of-self c = rises_front 0 (length c.self.inside.entered.items) c.pop.new.self (entry_of c.in-Some.entry) (subst (λ es. Rises 0 es (length c.self.inside.entered.items)) c.in-Some.ensures.left c.self.invariant)
