use Rattle.std.proofs.Common.{◌≡◌, drop}
use Rattle.fip_base.specs.CoreView.{arguments}
use Rattle.fip_trees.specs.Least.{after}
use Rattle.data_types.specs.Faults.{arguments_faults}
use Rattle.data_types.proofs.bodies.+arguments.Given as goal

abbrev pub invariant-check_arguments-loop-argument : goal.invariant-check_arguments-loop-argument
invariant-check_arguments-loop-argument l = after l.least (arguments_faults l.scope (arguments (drop l.argument-index l.arguments))) ≡ after l.initial.least (arguments_faults l.scope (arguments l.arguments))
