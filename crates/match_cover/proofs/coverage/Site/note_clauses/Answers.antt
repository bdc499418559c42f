use Rattle.std.proofs.Common.{rules, ◌++◌, map}
use Rattle.match_knowledge.specs.View.{rows}
use Rattle.match_cover.specs.PatternView.{erased, pattern_of}
use Rattle.match_cover.proofs.CoverSteps.{clauses_next, clauses_end, rows_next, rows_end}
use Rattle.match_cover.proofs.coverage.Site.note_clauses.Goals as goal

pub loop-clause-preserved : goal.loop-clause-preserved
loop-clause-preserved c =
    let all = rows c.args.before.now.items ++ map erased (map pattern_of c.args.clauses.now) in
    record {
      same = rows_next (rows c.loop-clause.before.items) (rows c.note_clause.new.before.items) all c.args.clauses.now c.loop-clause.clause-index c.clause-item.result (search rules) c.clause-item.is c.in_ok-note_clause.ensures.rows c.loop-clause.invariant.same;
      noted = clauses_next c.args.self.now.types.now c.args.self.now.instance (rows c.args.before.now.items) (rows c.loop-clause.before.items) (rows c.note_clause.new.before.items) (map pattern_of c.args.clauses.now) c.args.clauses.now c.loop-clause.clause-index c.clause-item.result c.args.out.now c.loop-clause.out c.note_clause.new.out (search rules) c.clause-item.is c.loop-clause.invariant.same c.in_ok-note_clause.ensures.rows c.in_ok-note_clause.ensures.noted c.loop-clause.invariant.noted;
    }

pub returns-clause-rows : goal.returns-clause-rows
returns-clause-rows c = rows_end (rows c.loop-clause.before.items) (rows c.args.before.now.items ++ map erased (map pattern_of c.args.clauses.now)) c.args.clauses.now c.loop-clause.clause-index (search rules) c.loop-clause.invariant.same

pub returns-clause-noted : goal.returns-clause-noted
returns-clause-noted c = clauses_end c.args.self.now.types.now c.args.self.now.instance (rows c.args.before.now.items) (rows c.loop-clause.before.items) (map pattern_of c.args.clauses.now) c.args.clauses.now c.loop-clause.clause-index c.args.out.now c.loop-clause.out (search rules) c.loop-clause.invariant.noted
