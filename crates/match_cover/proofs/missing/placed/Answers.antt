use Rattle.std.proofs.Common.{rules}
use Rattle.match_knowledge.specs.View.{known}
use Rattle.match_cover.proofs.MissingSteps.{placed_arm}
use Rattle.match_cover.proofs.missing.placed.Goals as goal

pub loop-n-preserved : goal.loop-n-preserved
loop-n-preserved c = record {
  within = search rules;
  same = placed_arm c.args.at.now c.loop-n.n c.index-at-n.result (known c.loop-n.k) (known c.in_ok-k.k) (known c.args.k) (search rules) c.loop-n.invariant.within c.index-at-n.is c.in_ok-k.ensures c.loop-n.invariant.same;
}
