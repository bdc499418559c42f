use Rattle.std.proofs.Common.{◌≡◌, drop}
use Rattle.fip_trees.specs.TreeView.{arguments}
use Rattle.fip_rules.specs.Shapes.{owning_all}
use Rattle.fip_rules.specs.Stands.{marks, go}
use Rattle.fip_rules.proofs.walk.+argument.Given as goal

abbrev pub invariant-own_all-loop-argument : goal.invariant-own_all-loop-argument
invariant-own_all-loop-argument l = go l.state (owning_all (marks l.state) (arguments (drop l.argument-index l.arguments))) ≡ go l.initial.state (owning_all (marks l.initial.state) (arguments l.arguments))
