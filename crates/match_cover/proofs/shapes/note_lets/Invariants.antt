use Rattle.std.proofs.Common.{◌≡◌, drop}
use Rattle.fip_trees.specs.Least.{after}
use Rattle.match_cover.specs.FoundView.{found_lets}
use Rattle.match_cover.specs.Shapes.{lets_faults}
use Rattle.match_cover.proofs.shapes.note_lets.Given as goal

abbrev pub invariant-loop-binders : goal.invariant-loop-binders
invariant-loop-binders l = after l.out (lets_faults l.instance (found_lets (drop l.binders-index l.lets))) ≡ after l.initial.out (lets_faults l.instance (found_lets l.lets))
