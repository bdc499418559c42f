use Rattle.std.proofs.Common.{vec_len, arith}
use Rattle.value_text.proofs.Steps.{no_rows, no_open, none_open, none_empty}
use Rattle.value_text.proofs.read.is_whole.Goals as goal

pub returns-in-None : goal.returns-in-None
returns-in-None c =
    let frames = c.args.cursor.now.frames in
    (λ t. (c.in-None.is, no_rows frames.items (let z = none_open (vec_len frames) c.is_empty.result c.is_empty.ensures t in omega (arith, z))), λ h. none_empty (vec_len frames) c.is_empty.result c.is_empty.ensures (let z = no_open frames.items h.1 in omega (arith, z)))
