use Rattle.match_cover.proofs.LeastHeads.{fields_none, fields_some}
use Rattle.match_cover.proofs.missing.fields_of.Goals as goal

pub returns-in-None : goal.returns-in-None
returns-in-None c = fields_none c.args.types.now c.args.ty c.args.head.now c.in-Tag.c c.constructors_of.result.now c.in-Tag.is c.constructors_of.ensures.same c.in-None.ensures.lookup.3

pub returns-in-Some : goal.returns-in-Some
returns-in-Some c = fields_some c.args.types.now c.args.ty c.args.head.now c.in-Tag.c c.constructors_of.result.now c.in-Some.constructor.now c.fields.result.now c.in-Tag.is c.constructors_of.ensures.same c.in-Some.ensures.lookup.3.0 c.in-Some.ensures.lookup.1 c.fields.ensures.same
