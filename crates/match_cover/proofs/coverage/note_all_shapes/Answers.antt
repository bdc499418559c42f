use Rattle.std.proofs.Common.{rules}
use Rattle.fip_trees.specs.Least.{after}
use Rattle.match_cover.specs.Shapes.{shape_faults}
use Rattle.match_cover.proofs.ShapeSteps.{bodies_noted}
use Rattle.match_cover.proofs.coverage.note_all_shapes.Goals as goal

pub loop-number-preserved : goal.loop-number-preserved
loop-number-preserved c = bodies_noted c.args.instances.now c.loop-number.number c.index-instances-number.result c.loop-number.out c.note_shapes.new.out (after c.args.out.now (shape_faults 0 c.args.instances.now)) (search rules) c.index-instances-number.is c.in_ok-note_shapes.ensures c.loop-number.invariant
