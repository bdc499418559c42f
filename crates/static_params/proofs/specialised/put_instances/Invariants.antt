use Rattle.std.proofs.Common.{◌≡◌, ◌++◌, take}
use Rattle.fip_language.specs.Mentions.{all_of}
use Rattle.fip_trees.specs.TreeView as W
use Rattle.static_params.specs.FlatProgram.{instances_of}
use Rattle.static_params.specs.FlatView.{GoesOn, IsMaking, making}
use Rattle.reached_instances.specs.closed_types.SharedTrees.{AreWithin, tree_at, trees}
use Rattle.static_params.proofs.specialised.put_instances.Given as goal

abbrev pub invariant-loop-place : goal.invariant-loop-place
invariant-loop-place l = record {
  goes : IsMaking l.initial.flattening → GoesOn l.initial.flattening l.flattening;
  made : IsMaking l.initial.flattening → AreWithin l.initial.flattening.shared.branches l.places → W.instances l.instances.items ≡ W.instances l.initial.instances.items ++ all_of (λ i. instances_of (making l.initial.flattening).source (making l.initial.flattening).numbers (tree_at (trees l.initial.flattening.shared.branches) i)) (take l.place-index l.places);
}
