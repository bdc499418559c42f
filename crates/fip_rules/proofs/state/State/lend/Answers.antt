use Rattle.fip_rules.proofs.Steps.{lend_unbound, lend_bound}
use Rattle.fip_rules.proofs.state.State.lend.Goals as goal

pub returns-in-None : goal.returns-in-None
returns-in-None c = record { lent = lend_unbound c.args.self.now c.args.binder c.args.place c.args.name.now c.in-None.is }

pub returns-in_ok-lend_number-in-Some : goal.returns-in_ok-lend_number-in-Some
returns-in_ok-lend_number-in-Some c = record { lent = lend_bound c.args.self.now c.lend_number.new.self c.args.binder c.in-Some.number c.args.place c.args.name.now c.in-Some.is c.in_ok-lend_number-in-Some.ensures.lent }
