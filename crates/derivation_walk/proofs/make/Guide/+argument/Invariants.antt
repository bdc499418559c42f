use Rattle.std.proofs.Common.{◌≡◌, drop}
use Rattle.fip_trees.specs.TreeView.{arguments}
use Rattle.derivation_trees.specs.Building.{built}
use Rattle.derivation_walk.specs.Growing.{grown_all}
use Rattle.derivation_walk.specs.Costs.{total}
use Rattle.derivation_walk.specs.Guides.{guided}
use Rattle.derivation_walk.specs.Walked.{values}
use Rattle.derivation_walk.proofs.make.Guide.+argument.Given as goal

abbrev pub invariant-values-loop-argument : goal.invariant-values-loop-argument
invariant-values-loop-argument l = record {
  grows : grown_all (built l.walk.nodes) (values (guided l.self) (arguments (drop l.argument-index l.arguments))) ≡ grown_all (built l.initial.walk.nodes) (values (guided l.self) (arguments l.arguments));
  next : l.walk.next ≡ l.initial.walk.next;
  kept : total l.walk ≡ total l.initial.walk;
}
