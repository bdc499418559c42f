use Rattle.std.proofs.Common.{vec_len, arith}
use Rattle.value_text.proofs.Steps.{no_rows, none_open, some_open}
use Rattle.value_text.proofs.build.build_after.Goals as goal

pub build_line-requires-clause-frames : goal.build_line-requires-clause-frames
build_line-requires-clause-frames c = no_rows c.args.cursor.now.frames.items (let z = none_open (vec_len c.args.cursor.now.frames) c.is_empty.result c.is_empty.ensures c.if-is_empty.true in omega (arith, z))

pub build_field-requires-clause-open : goal.build_field-requires-clause-open
build_field-requires-clause-open c = some_open (vec_len c.args.cursor.now.frames) c.is_empty.result c.is_empty.ensures c.if-is_empty.false

pub returns-then-is_empty-clause-advances : goal.returns-then-is_empty-clause-advances
returns-then-is_empty-clause-advances c = λ tb known. c.build_line.ensures.advances tb c.args.loader.now c.args.words.now.items known

pub returns-else-is_empty-clause-advances : goal.returns-else-is_empty-clause-advances
returns-else-is_empty-clause-advances c = λ tb known. c.build_field.ensures.advances tb known
