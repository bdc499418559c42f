use Rattle.type_check.proofs.Trail.{holds_leave}
use Rattle.type_check.proofs.scope.Scope.leave_one.Goals as goal

pub invariant_of-self : goal.invariant_of-self
invariant_of-self c = holds_leave c.self.inside.table.items c.put.new.table.items c.self.inside.trail.items c.pop.new.self.items c.in-Some.step c.self.invariant c.in-Some.ensures.items c.put.ensures
