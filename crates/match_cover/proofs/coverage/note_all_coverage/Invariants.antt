use Rattle.std.proofs.Common.{drop}
use Rattle.match_cover.specs.Gathered.{BodiesDone}
use Rattle.match_cover.proofs.coverage.note_all_coverage.Given as goal

abbrev pub invariant-loop-number : goal.invariant-loop-number
invariant-loop-number l = BodiesDone l.types l.instances l.number (drop l.number l.instances) l.initial.out l.out
