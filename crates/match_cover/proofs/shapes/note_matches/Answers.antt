use Rattle.std.proofs.Common.{rules}
use Rattle.fip_trees.specs.Least.{after}
use Rattle.match_cover.specs.FoundView.{found_matches}
use Rattle.match_cover.specs.Shapes.{matches_faults}
use Rattle.match_cover.proofs.ShapeSteps.{matches_next}
use Rattle.match_cover.proofs.shapes.note_matches.Goals as goal

pub loop-found-preserved : goal.loop-found-preserved
loop-found-preserved c = matches_next c.args.instance c.args.matches.now c.loop-found.found-index c.found-item.result c.loop-found.out c.note_size.new.out c.note_pattern.new.out c.note_others.new.out (after c.args.out.now (matches_faults c.args.instance (found_matches c.args.matches.now))) (search rules) c.found-item.is c.in_ok-note_size.ensures c.in_ok-note_pattern.ensures c.in_ok-note_others.ensures c.loop-found.invariant
