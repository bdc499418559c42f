use Rattle.fip_rules.proofs.LogTables.{holds_leave}
use Rattle.fip_rules.proofs.log.Log.leave_one.Goals as goal

pub invariant_of-self : goal.invariant_of-self
invariant_of-self c = holds_leave c.self.inside.last.items c.put_place.new.table.items c.self.inside.steps.items c.pop.new.self.items c.in-Some.step c.self.invariant c.in-Some.ensures.items c.put_place.ensures
