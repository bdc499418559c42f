use Rattle.std.proofs.Common.{ap, ◌∙◌, List}
use Rattle.value_text.specs.Reading.{Pending, outline, pending_rows}
use Rattle.value_text.proofs.Steps.{rows_push}
use Rattle.value_text.proofs.read.push_frame.Goals as goal

pub returns : goal.returns
returns c = record { frames = ap (λ (fs : List Pending). record (outline c.args.cursor.now) { frames = fs }) (ap pending_rows c.in_ok-push.ensures.items ∙ rows_push _ _) }
