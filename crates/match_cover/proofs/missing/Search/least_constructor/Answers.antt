use Rattle.std.proofs.Common.{rules}
use Rattle.match_knowledge.specs.View.{rows}
use Rattle.match_cover.specs.Missing.{placed}
use Rattle.match_cover.specs.MissingView.{levels}
use Rattle.match_cover.proofs.LeastHeads.{no_tags, tag_next, tag_found, tag_none}
use Rattle.match_cover.proofs.missing.Search.least_constructor.Goals as goal

pub loop-c-init : goal.loop-c-init
loop-c-init c = no_tags c.args.self.now.types.now (rows c.args.self.now.rows.now) (placed (levels c.args.at.now)) c.args.constructors.now

pub loop-c-preserved : goal.loop-c-preserved
loop-c-preserved c = tag_next c.args.self.now.types.now (rows c.args.self.now.rows.now) (placed (levels c.args.at.now)) c.args.constructors.now c.loop-c.c c.index-constructors-c.result c.fields.result.now c.in_ok-may_stand.field-0 (search rules) c.index-constructors-c.is c.fields.ensures.same c.if-branch.false c.in_ok-may_stand.ensures c.loop-c.invariant

pub returns-then-branch : goal.returns-then-branch
returns-then-branch c = tag_found c.args.self.now.types.now (rows c.args.self.now.rows.now) (placed (levels c.args.at.now)) c.args.constructors.now c.loop-c.c c.index-constructors-c.result c.fields.result.now c.in_ok-may_stand.field-0 (search rules) c.index-constructors-c.is c.fields.ensures.same c.if-branch.true c.in_ok-may_stand.ensures c.loop-c.invariant

pub returns : goal.returns
returns c = tag_none c.args.self.now.types.now (rows c.args.self.now.rows.now) (placed (levels c.args.at.now)) c.args.constructors.now c.loop-c.c (search rules) c.loop-c.invariant
