use Rattle.std.proofs.Common.{rules, ◌+◌}
use Rattle.fip_trees.proofs.SizeLists.{half_next, half_done}
use Rattle.fip_trees.proofs.sizes.Sizes.try_add.Goals as goal

pub loop-k-preserved : goal.loop-k-preserved
loop-k-preserved c = half_next (λ m n. m + n) c.loop-k.k c.self.inside.numbers c.other.inside.numbers c.loop-k.self-inside.numbers c.in_ok-self-inside.field-0 c.loop-k.invariant c.loop-k-test.true c.self.told c.other.told (search rules)

pub returns : goal.returns
returns c = record { added = half_done (λ m n. m + n) c.loop-k.k c.self.inside.numbers c.other.inside.numbers c.loop-k.self-inside.numbers c.args.self.now c.args.other.now c.loop-k.invariant c.loop-k-test.false c.self.told c.other.told c.self.view_is c.other.view_is }
