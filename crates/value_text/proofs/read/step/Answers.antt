use Rattle.std.proofs.Common.{ℕ, Option, sym, subst, vec_len, arith}
use Rattle.std.specs.Prelude.{Result, IfOk, MatchOption}
use Rattle.value_text.specs.declared.read.Event.{Event}
use Rattle.value_text.specs.declared.read.Refused.{Refused}
use Rattle.value_text.specs.Reading.{outline, IsKnown, IsNarrow}
use Rattle.value_text.proofs.Steps.{no_rows, none_open, some_open}
use Rattle.value_text.proofs.read.step.Goals as goal

pub read_line-requires-clause-frames : goal.read_line-requires-clause-frames
read_line-requires-clause-frames c = no_rows c.args.cursor.now.frames.items (let z = none_open (vec_len c.args.cursor.now.frames) c.is_empty.result c.is_empty.ensures c.if-is_empty.true in omega (arith, z))

pub read_field-requires-clause-open : goal.read_field-requires-clause-open
read_field-requires-clause-open c = some_open (vec_len c.args.cursor.now.frames) c.is_empty.result c.is_empty.ensures c.if-is_empty.false

pub returns-then-ty-eq0-clause-known : goal.returns-then-ty-eq0-clause-known
returns-then-ty-eq0-clause-known c = λ sound known. subst (λ (r : Result (Option Event) Refused). IfOk r (λ e. IsKnown c.args.table.now (outline c.read_int.new.cursor))) (sym c.number_step.ensures) (c.read_int.ensures.known c.args.table.now known)

pub returns-else-is_empty-clause-narrow : goal.returns-else-is_empty-clause-narrow
returns-else-is_empty-clause-narrow c = λ known. subst (λ (r : Result (Option Event) Refused). IfOk r (λ e. MatchOption e ℕ IsNarrow)) (sym c.field_step.ensures) (c.read_field.ensures.narrow c.args.table.now known)
