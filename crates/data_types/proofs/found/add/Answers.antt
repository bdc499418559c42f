use Rattle.std.proofs.Common.{arith}
use Rattle.data_types.proofs.Sets.{bit_set, below_set, bit_past}
use Rattle.data_types.proofs.found.add.Goals as goal

pub returns-then-place-set-clause-added : goal.returns-then-place-set-clause-added
returns-then-place-set-clause-added c = bit_set c.args.set.now c.args.place

pub returns-then-place-set-clause-kept : goal.returns-then-place-set-clause-kept
returns-then-place-set-clause-kept c = below_set c.args.set.now c.args.place

pub returns-else-place-set-clause-added : goal.returns-else-place-set-clause-added
returns-else-place-set-clause-added c = let h = c.if-place-set.false in bit_past c.args.set.now c.args.place (omega (arith, h))
