use Rattle.match_cover.proofs.LeastHeads.{name_none, name_some}
use Rattle.match_cover.proofs.missing.name_of.Goals as goal

pub returns-in-None : goal.returns-in-None
returns-in-None c = name_none c.args.types.now c.args.ty c.args.c c.constructors_of.result.now c.constructors_of.ensures.same c.in-None.ensures.lookup.3

pub returns-in-Some : goal.returns-in-Some
returns-in-Some c = name_some c.args.types.now c.args.ty c.args.c c.constructors_of.result.now c.in-Some.constructor.now c.name.result.now c.constructors_of.ensures.same c.in-Some.ensures.lookup.3.0 c.in-Some.ensures.lookup.1 c.name.ensures.same
