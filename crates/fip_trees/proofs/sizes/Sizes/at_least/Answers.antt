use Rattle.fip_trees.specs.Sizes.{greater}
use Rattle.fip_trees.proofs.SizeLists.{half_next, half_done}
use Rattle.fip_trees.proofs.sizes.Sizes.at_least.Goals as goal

pub loop-k-preserved : goal.loop-k-preserved
loop-k-preserved c = half_next greater c.loop-k.k c.self.inside.numbers c.other.inside.numbers c.loop-k.self-inside.numbers c.greater.result c.loop-k.invariant c.loop-k-test.true c.self.told c.other.told c.greater.ensures

pub returns : goal.returns
returns c = record { greatest = half_done greater c.loop-k.k c.self.inside.numbers c.other.inside.numbers c.loop-k.self-inside.numbers c.args.self.now c.args.other.now c.loop-k.invariant c.loop-k-test.false c.self.told c.other.told c.self.view_is c.other.view_is }
