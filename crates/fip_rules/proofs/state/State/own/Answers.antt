use Rattle.fip_rules.proofs.Steps.{own_unbound, own_bound}
use Rattle.fip_rules.proofs.state.State.own.Goals as goal

pub returns-in-None : goal.returns-in-None
returns-in-None c = record { used = own_unbound c.args.self.now c.args.binder c.args.place c.args.name.now c.in-None.is }

pub returns-in_ok-own_number-in-Some : goal.returns-in_ok-own_number-in-Some
returns-in_ok-own_number-in-Some c = record { used = own_bound c.args.self.now c.own_number.new.self c.args.binder c.in-Some.number c.args.place c.args.name.now c.in-Some.is c.in_ok-own_number-in-Some.ensures.used }
