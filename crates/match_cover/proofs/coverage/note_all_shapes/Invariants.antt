use Rattle.std.proofs.Common.{◌≡◌, drop}
use Rattle.fip_trees.specs.Least.{after}
use Rattle.match_cover.specs.Shapes.{shape_faults}
use Rattle.match_cover.proofs.coverage.note_all_shapes.Given as goal

abbrev pub invariant-loop-number : goal.invariant-loop-number
invariant-loop-number l = after l.out (shape_faults l.number (drop l.number l.instances)) ≡ after l.initial.out (shape_faults 0 l.instances)
