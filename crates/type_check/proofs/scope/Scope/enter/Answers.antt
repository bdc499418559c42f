use Rattle.std.proofs.Common.{rules}
use Rattle.type_check.proofs.Trail.{holds_enter}
use Rattle.type_check.proofs.scope.Scope.enter.Goals as goal

pub invariant_of-self-2 : goal.invariant_of-self-2
invariant_of-self-2 c = holds_enter c.self.inside.table.items c.grow.new.table.items c.put.new.table.items c.self.inside.trail.items c.push.new.self.items c.args.entry c.entry_at-before.result c.self.invariant c.grow.ensures.same c.in_ok-grow.ensures.long (search rules) (search rules) (search rules)
