use Rattle.derivation_walk.proofs.UsesRows.{add_past, add_set}
use Rattle.derivation_walk.proofs.uses.add_place.Goals as goal

pub returns-in_ok-push : goal.returns-in_ok-push
returns-in_ok-push c = add_set c.args.places.now.items c.args.occurrence.now.binder c.args.occurrence.now.expression c.in-Some.row.now c.push.new.self c.in-Some.ensures.item.3.0 c.in-Some.ensures.value c.in_ok-push.ensures.items

pub returns-in_default : goal.returns-in_default
returns-in_default c = add_past c.args.places.now.items c.args.occurrence.now.binder c.args.occurrence.now.expression c.in_default.ensures.item.3
