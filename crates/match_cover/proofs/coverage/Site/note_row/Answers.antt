use Rattle.match_knowledge.specs.View.{row, rows}
use Rattle.match_cover.proofs.CoverSteps.{row_reached, row_unreached}
use Rattle.match_cover.proofs.coverage.Site.note_row.Goals as goal

pub returns-then-branch : goal.returns-then-branch
returns-then-branch c = row_reached c.args.self.now.types.now c.args.self.now.instance (rows c.args.before.now) c.args.place (row c.args.pattern.now) c.in_ok-reached.field-0 c.args.out.now c.in_ok-reached.ensures c.if-branch.true

pub returns : goal.returns
returns c = row_unreached c.note.result c.args.self.now.types.now c.args.self.now.instance (rows c.args.before.now) c.args.place (row c.args.pattern.now) c.in_ok-reached.field-0 c.args.out.now c.note.new.self c.in_ok-reached.ensures c.if-branch.false c.note.ensures.noted
