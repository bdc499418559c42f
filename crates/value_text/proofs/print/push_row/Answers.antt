use Rattle.std.proofs.Common.{ap, ◌∙◌}
use Rattle.value_text.specs.Printing.{last_first}
use Rattle.value_text.proofs.Printing.{last_push}
use Rattle.value_text.proofs.print.push_row.Goals as goal

pub returns-clause-added : goal.returns-clause-added
returns-clause-added c = ap last_first c.in_ok-push.ensures.items ∙ last_push _ _
