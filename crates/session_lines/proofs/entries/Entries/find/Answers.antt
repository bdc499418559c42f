use Rattle.std.proofs.Common.{◌∙◌, sym}
use Rattle.session_lines.proofs.entries.Entries.find.Goals as goal

pub returns-clause-none : goal.returns-clause-none
returns-clause-none c = λ fs h e n has. h.all c.args.name.now n has (sym c.find.ensures.meaning ∙ e)
