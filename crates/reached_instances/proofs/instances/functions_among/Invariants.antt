use Rattle.std.proofs.Common.{[], take}
use Rattle.fip_base.specs.fip_language.Mentions.{all_of}
use Rattle.closed_types.specs.Closed.{MoreClosed, NoClosed}
use Rattle.closed_types.specs.Instances.{functions_among}
use Rattle.closed_types.specs.PutView.{Put}
use Rattle.closed_types.specs.SharedTrees.{AreWithin, tree_at, trees}
use Rattle.reached_instances.proofs.instances.functions_among.Given as goal

abbrev pub invariant-loop-argument : goal.invariant-loop-argument
invariant-loop-argument l = AreWithin l.shared.branches l.list → Put l.shared l.shared [] l.places.items (all_of (λ i. functions_among (MoreClosed (tree_at (trees l.shared.branches) i) NoClosed)) (take l.argument-index l.list))
