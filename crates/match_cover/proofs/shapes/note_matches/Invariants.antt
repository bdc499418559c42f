use Rattle.std.proofs.Common.{◌≡◌, drop}
use Rattle.fip_trees.specs.Least.{after}
use Rattle.match_cover.specs.FoundView.{found_matches}
use Rattle.match_cover.specs.Shapes.{matches_faults}
use Rattle.match_cover.proofs.shapes.note_matches.Given as goal

abbrev pub invariant-loop-found : goal.invariant-loop-found
invariant-loop-found l = after l.out (matches_faults l.instance (found_matches (drop l.found-index l.matches))) ≡ after l.initial.out (matches_faults l.instance (found_matches l.matches))
