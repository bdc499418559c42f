use Rattle.std.proofs.Common.{take, ◌++◌, arith}
use Rattle.std.proofs.lemmas.Grind.{common_steps}
use Rattle.fip_outside.proofs.Turns.{Consumes-append}
use Rattle.fip_outside.proofs.all.read_all.Goals as goal

pub returns-then-count-room-clause-long : goal.returns-then-count-room-clause-long
returns-then-count-room-clause-long g c _ = (
  c.loop-count.bytes.items ++ take c.in-Ok.count c.read.new.buf,
  Consumes-append _ _ _ _ _ c.loop-count.invariant.consumed c.in-Ok.ensures.bytes.0,
  grind (arith, common_steps),
)

pub returns-in_err-extend_from_slice-clause-memory :
    goal.returns-in_err-extend_from_slice-clause-memory
returns-in_err-extend_from_slice-clause-memory g c _ = (
  c.loop-count.bytes.items ++ take c.in-Ok.count c.read.new.buf,
  Consumes-append _ _ _ _ _ c.loop-count.invariant.consumed c.in-Ok.ensures.bytes.0,
  grind (arith, common_steps),
)
