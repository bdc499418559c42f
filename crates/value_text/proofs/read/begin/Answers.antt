use Rattle.std.proofs.Common.{ap, ◌∙◌}
use Rattle.value_text.specs.Reading.{pending_rows}
use Rattle.value_text.specs.Loaded.{types_of}
use Rattle.value_text.proofs.Steps.{rows_empty, begins_at, begins_none}
use Rattle.value_text.proofs.read.begin.Goals as goal

pub returns-in-Some-clause-starts : goal.returns-in-Some-clause-starts
returns-in-Some-clause-starts c = begins_at (types_of c.args.params.now) c.in-Some.k (types_of c.in-Some.lines.now) (pending_rows c.new-frames.result.items) c.in-Some.ensures (ap pending_rows c.new-frames.ensures.items ∙ rows_empty)

pub returns-in-None-clause-starts : goal.returns-in-None-clause-starts
returns-in-None-clause-starts c = begins_none (types_of c.args.params.now) (pending_rows c.new-frames.result.items) c.in-None.ensures (ap pending_rows c.new-frames.ensures.items ∙ rows_empty)
