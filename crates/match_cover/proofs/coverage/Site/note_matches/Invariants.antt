use Rattle.std.proofs.Common.{drop}
use Rattle.match_cover.specs.FoundView.{found_matches}
use Rattle.match_cover.specs.Gathered.{MatchesDone}
use Rattle.match_cover.proofs.coverage.Site.note_matches.Given as goal

abbrev pub invariant-loop-found : goal.invariant-loop-found
invariant-loop-found l = MatchesDone l.self.types.now l.self.instance (found_matches l.matches) (found_matches (drop l.found-index l.matches)) l.initial.out l.out
