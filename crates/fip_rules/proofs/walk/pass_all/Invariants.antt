use Rattle.std.proofs.Common.{◌≡◌, drop}
use Rattle.fip_trees.specs.TreeView.{arguments}
use Rattle.fip_rules.specs.Shapes.{passing_all}
use Rattle.fip_rules.specs.Stands.{marks, go}
use Rattle.fip_rules.specs.Views.{world_of}
use Rattle.fip_rules.proofs.walk.pass_all.Given as goal

abbrev pub invariant-loop-argument : goal.invariant-loop-argument
invariant-loop-argument l = record {
  place : l.place ≡ l.argument-index;
  state : go l.state (passing_all (world_of l.world) (marks l.state) l.callee l.place (arguments (drop l.argument-index l.arguments))) ≡ go l.initial.state (passing_all (world_of l.world) (marks l.initial.state) l.callee 0 (arguments l.arguments));
}
