use Rattle.std.proofs.Common.{◌-◌}
use Rattle.fip_trees.proofs.SizeLists.{half_next, half_done}
use Rattle.fip_trees.proofs.sizes.Sizes.less.Goals as goal

pub loop-k-preserved : goal.loop-k-preserved
loop-k-preserved c = half_next (λ m n. m - n) c.loop-k.k c.self.inside.numbers c.other.inside.numbers c.loop-k.self-inside.numbers c.saturating_sub.result c.loop-k.invariant c.loop-k-test.true c.self.told c.other.told c.saturating_sub.ensures

pub returns : goal.returns
returns c = record { fewer = half_done (λ m n. m - n) c.loop-k.k c.self.inside.numbers c.other.inside.numbers c.loop-k.self-inside.numbers c.args.self.now c.args.other.now c.loop-k.invariant c.loop-k-test.false c.self.told c.other.told c.self.view_is c.other.view_is }
