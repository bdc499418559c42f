use Rattle.std.proofs.Common.{rules}
use Rattle.match_knowledge.specs.View.{parts, knowns}
use Rattle.match_cover.specs.TreeView.{asking}
use Rattle.match_cover.proofs.TreeSteps.{asking_done}
use Rattle.match_cover.proofs.trees.first_asking.Goals as goal

pub returns : goal.returns
returns c = asking_done c.args.ps.now c.args.ks.now c.loop-k.j c.loop-k.k-index (asking (parts c.args.ps.now) (knowns c.args.ks.now)) (search rules) c.loop-k.invariant.same
