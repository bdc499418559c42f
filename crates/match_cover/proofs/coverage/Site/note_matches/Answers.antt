use Rattle.std.proofs.Common.{rules}
use Rattle.match_cover.specs.FoundView.{found_matches}
use Rattle.match_cover.proofs.CoverSteps.{matches_next, matches_end}
use Rattle.match_cover.proofs.coverage.Site.note_matches.Goals as goal

pub loop-found-preserved : goal.loop-found-preserved
loop-found-preserved c = matches_next c.args.self.now.types.now c.args.self.now.instance (found_matches c.args.matches.now) c.args.matches.now c.loop-found.found-index c.found-item.result c.args.out.now c.loop-found.out c.note_match.new.out (search rules) c.found-item.is c.in_ok-note_match.ensures c.loop-found.invariant

pub returns : goal.returns
returns c = matches_end c.args.self.now.types.now c.args.self.now.instance (found_matches c.args.matches.now) c.args.matches.now c.loop-found.found-index c.args.out.now c.loop-found.out (search rules) c.loop-found.invariant
