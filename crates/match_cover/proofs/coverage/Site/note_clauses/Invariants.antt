use Rattle.std.proofs.Common.{◌≡◌, ◌++◌, drop, map}
use Rattle.match_knowledge.specs.View.{rows}
use Rattle.match_cover.specs.PatternView.{erased, pattern_of}
use Rattle.match_cover.specs.Gathered.{ClausesDone}
use Rattle.match_cover.proofs.coverage.Site.note_clauses.Given as goal

abbrev pub invariant-loop-clause : goal.invariant-loop-clause
invariant-loop-clause l = record {
  same : rows l.before.items ++ map erased (map pattern_of (drop l.clause-index l.clauses)) ≡ rows l.initial.before.items ++ map erased (map pattern_of l.clauses);
  noted : ClausesDone l.self.types.now l.self.instance (rows l.initial.before.items) (map pattern_of l.clauses) (rows l.before.items) (map pattern_of (drop l.clause-index l.clauses)) l.initial.out l.out;
}
