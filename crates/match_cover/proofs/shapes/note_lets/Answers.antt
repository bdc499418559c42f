use Rattle.std.proofs.Common.{rules}
use Rattle.match_cover.specs.FoundView.{found_lets}
use Rattle.fip_trees.specs.Least.{after}
use Rattle.match_cover.specs.Shapes.{lets_faults}
use Rattle.match_cover.proofs.ShapeSteps.{lets_next}
use Rattle.match_cover.proofs.shapes.note_lets.Goals as goal

pub loop-binders-preserved : goal.loop-binders-preserved
loop-binders-preserved c = lets_next c.args.instance c.args.lets.now c.loop-binders.binders-index c.binders-item.result c.loop-binders.out c.note_let.new.out (after c.args.out.now (lets_faults c.args.instance (found_lets c.args.lets.now))) (search rules) c.binders-item.is c.in_ok-note_let.ensures c.loop-binders.invariant
