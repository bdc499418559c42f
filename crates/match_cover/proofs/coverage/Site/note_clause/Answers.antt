use Rattle.std.proofs.Common.{subst}
use Rattle.match_knowledge.specs.View.{rows}
use Rattle.match_cover.specs.Gathered.{NotesRow}
use Rattle.match_cover.specs.PatternView.{erased, pattern_of, pattern_place}
use Rattle.match_cover.proofs.coverage.Site.note_clause.Goals as goal

pub returns-clause-noted : goal.returns-clause-noted
returns-clause-noted c =
    let tb = c.args.self.now.types.now in
    let i = c.args.self.now.instance in
    let q = pattern_of c.args.clause.now in
    let o = c.args.out.now in
    let p = c.note_row.new.out in
    subst (λ z. NotesRow tb i (rows z) (pattern_place q) (erased q) o p) c.deref.ensures.value
    (subst (λ z. NotesRow tb i (rows c.deref.result.now) z (erased q) o p) c.place_of.ensures
    (subst (λ z. NotesRow tb i (rows c.deref.result.now) c.place_of.result z o p) c.in_ok-row.ensures c.in_ok-note_row.ensures))
