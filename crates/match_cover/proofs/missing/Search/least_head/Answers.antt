use Rattle.std.proofs.Common.{arith}
use Rattle.match_knowledge.specs.View.{rows}
use Rattle.match_knowledge.proofs.Arms.{if_ok}
use Rattle.match_cover.specs.Missing.{placed}
use Rattle.match_cover.specs.MissingView.{levels}
use Rattle.match_cover.proofs.LeastHeads.{number_head, tag_head}
use Rattle.match_cover.proofs.missing.Search.least_head.Goals as goal

pub returns-then-ty-eq0 : goal.returns-then-ty-eq0
returns-then-ty-eq0 c = if_ok c.least_number.result (λ o x. number_head c.args.self.now.types.now (rows c.args.self.now.rows.now) (placed (levels c.args.at.now)) c.args.ty c.args.end o c.if-ty-eq0.true x) c.least_number.ensures

pub returns : goal.returns
returns c = if_ok c.least_constructor.result (λ o x. tag_head c.args.self.now.types.now (rows c.args.self.now.rows.now) (placed (levels c.args.at.now)) c.args.ty c.args.end c.constructors_of.result.now o (λ e. let f = c.if-ty-eq0.false in omega (arith, e, f)) c.constructors_of.ensures.same x) c.least_constructor.ensures
