use Rattle.std.proofs.Common.{◌≡◌, drop}
use Rattle.fip_trees.specs.TreeView.{arguments}
use Rattle.derivation_trees.specs.Building.{built}
use Rattle.derivation_walk.specs.Growing.{grown_all}
use Rattle.derivation_walk.specs.Costs.{total}
use Rattle.derivation_walk.specs.Guides.{guided}
use Rattle.derivation_walk.specs.Walked.{passed}
use Rattle.derivation_walk.proofs.make.Guide.passed.Given as goal

abbrev pub invariant-loop-argument : goal.invariant-loop-argument
invariant-loop-argument l = record {
  place : l.place ≡ l.argument-index;
  grows : grown_all (built l.walk.nodes) (passed (guided l.self) (drop l.place l.params) (arguments (drop l.argument-index l.arguments))) ≡ grown_all (built l.initial.walk.nodes) (passed (guided l.self) l.params (arguments l.arguments));
  next : l.walk.next ≡ l.initial.walk.next;
  kept : total l.walk ≡ total l.initial.walk;
}
