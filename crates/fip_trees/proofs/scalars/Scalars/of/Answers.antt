use Rattle.std.proofs.Common.{arith}
use Rattle.fip_trees.proofs.ScalarTables.{flags_all}
use Rattle.fip_trees.proofs.scalars.Scalars.of.Goals as goal

pub returns : goal.returns
returns c = record { exact = flags_all c.args.types.now c.loop-place.flags.items c.loop-place.invariant.flags (let e = c.loop-place.invariant.count in let h = c.loop-place-test.false in let l = c.len-place-end.ensures.count in omega arith) }
