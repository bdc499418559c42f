use Rattle.std.proofs.Common.{rules, sym, ◌∙◌}
use Rattle.match_knowledge.specs.View.{known}
use Rattle.match_cover.proofs.TreeSteps.{first_splits}
use Rattle.match_cover.proofs.trees.find_first.Goals as goal

pub returns-then-is_asks : goal.returns-then-is_asks
returns-then-is_asks c = first_splits c.args.ps.now (known c.args.k.now) c.loop-p.i c.loop-p.p-index c.p-item.result c.compare-verdict.result c.loop-p.invariant.place (search rules) c.p-item.is c.compare-verdict.ensures (sym c.is_asks.ensures ∙ c.if-is_asks.true) c.loop-p.invariant.same
