use Rattle.std.proofs.Common.{rules}
use Rattle.fip_rules.proofs.LogTables.{holds_enter}
use Rattle.fip_rules.proofs.log.Log.push.Goals as goal

pub invariant_of-self-2 : goal.invariant_of-self-2
invariant_of-self-2 c = holds_enter c.self.inside.last.items c.make_room.new.table.items c.put_place.new.table.items c.self.inside.steps.items c.push.new.self.items c.args.number c.place_at-before.result c.len-place.result c.self.invariant c.make_room.ensures.same c.in_ok-make_room.ensures.long (search rules) (search rules) (search rules) (search rules)
