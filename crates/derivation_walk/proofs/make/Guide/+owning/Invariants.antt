use Rattle.std.proofs.Common.{◌≡◌, drop}
use Rattle.fip_trees.specs.TreeView.{arguments}
use Rattle.derivation_walk.specs.Guides.{guided}
use Rattle.derivation_walk.specs.Walked.{owning_all}
use Rattle.derivation_walk.proofs.make.Guide.+owning.Given as goal

abbrev pub invariant-add_all_owning-loop-argument : goal.invariant-add_all_owning-loop-argument
invariant-add_all_owning-loop-argument l = owning_all (guided l.self) l.variables.items (arguments (drop l.argument-index l.arguments)) ≡ owning_all (guided l.self) l.initial.variables.items (arguments l.arguments)
