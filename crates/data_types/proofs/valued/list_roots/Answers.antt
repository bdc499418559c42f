use Rattle.data_types.specs.View as v
use Rattle.data_types.proofs.Rooting.{roots_first, roots_next}
use Rattle.data_types.proofs.valued.list_roots.Goals as goal

pub loop-t-init : goal.loop-t-init
loop-t-init c = roots_first (v.declarations c.args.declared.now) c.args.claims.now c.requires.empty

pub loop-t-preserved : goal.loop-t-preserved
loop-t-preserved c = roots_next (v.declarations c.args.declared.now) c.loop-t.claims c.list.new.self c.loop-t.t c.in_ok-arguments.arguments.items c.loop-t.invariant c.in_ok-arguments.ensures c.in_ok-list.ensures.listed
