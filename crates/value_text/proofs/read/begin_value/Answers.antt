use Rattle.std.proofs.Common.{[], ◌∷◌, refl, ap, ◌∙◌}
use Rattle.value_text.specs.Reading.{pending_rows}
use Rattle.value_text.proofs.Steps.{rows_empty, begins_at}
use Rattle.value_text.proofs.read.begin_value.Goals as goal

pub returns-clause-starts : goal.returns-clause-starts
returns-clause-starts c = begins_at (c.args.ty ∷ []) c.args.ty [] (pending_rows c.new.result.items) refl (ap pending_rows c.new.ensures.items ∙ rows_empty)
