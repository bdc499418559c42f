use Rattle.std.specs.Prelude.{OnOk}
use Rattle.std.proofs.Common.{subst, ap}
use Rattle.match_knowledge.specs.View.{rows}
use Rattle.match_cover.specs.Gathered.{NotesMissed}
use Rattle.match_cover.proofs.CoverSteps.{match_noted}
use Rattle.match_cover.proofs.coverage.Site.note_match.Goals as goal

pub returns : goal.returns
returns c =
    let tb = c.args.self.now.types.now in
    let i = c.args.self.now.instance in
    let f = c.args.found.now in
    match_noted c.note_missed.result tb i f (rows c.new-patterns.result.items) (rows c.note_clause.new.before.items) (rows c.note_clauses.new.before.items) c.args.out.now c.note_clause.new.out c.note_clauses.new.out c.note_missed.new.out (ap rows c.new-patterns.ensures.items) c.in_ok-note_clause.ensures.rows c.in_ok-note_clauses.ensures.rows c.in_ok-note_clause.ensures.noted c.in_ok-note_clauses.ensures.noted
    (subst (λ z. OnOk c.note_missed.result (NotesMissed tb i f.place f.ty (rows z) c.note_clauses.new.out c.note_missed.new.out)) c.deref.ensures.value c.note_missed.ensures)
