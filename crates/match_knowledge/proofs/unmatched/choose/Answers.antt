use Rattle.std.proofs.Common.{rules}
use Rattle.match_knowledge.specs.View.{known}
use Rattle.match_knowledge.proofs.Arms.{next_arm, none_arm}
use Rattle.match_knowledge.proofs.unmatched.choose.Goals as goal

pub loop-p-preserved : goal.loop-p-preserved
loop-p-preserved c = record {
  place = search rules;
  choice = next_arm c.args.ps.now (known c.args.k.now) c.loop-p.best c.next-best.result c.compare-verdict.result c.loop-p.i c.loop-p.p-index c.weight_of.result c.p-item.result (search rules) c.loop-p.invariant.place c.p-item.is c.compare-verdict.ensures c.next-best.ensures c.loop-p.invariant.choice;
  nothing = none_arm c.args.ps.now (known c.args.k.now) c.loop-p.best c.next-best.result c.compare-verdict.result c.loop-p.i c.loop-p.p-index c.weight_of.result c.p-item.result (search rules) c.p-item.is c.compare-verdict.ensures c.next-best.ensures c.loop-p.invariant.nothing;
}
