use Rattle.std.proofs.Common.{◌≡◌, [], drop}
use Rattle.fip_trees.specs.Least.{after}
use Rattle.match_cover.specs.FoundView.{found_binders}
use Rattle.match_cover.specs.Shapes.{twice_faults}
use Rattle.match_cover.proofs.shapes.note_twice.Given as goal

abbrev pub invariant-loop-binder : goal.invariant-loop-binder
invariant-loop-binder l = after l.out (twice_faults l.instance l.seen (found_binders (drop l.binder-index l.binders))) ≡ after l.initial.out (twice_faults l.instance [] (found_binders l.binders))
