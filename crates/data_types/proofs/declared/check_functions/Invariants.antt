use Rattle.std.proofs.Common.{◌≡◌, map, drop}
use Rattle.fip_base.specs.CoreView.{function}
use Rattle.fip_trees.specs.Least.{after}
use Rattle.data_types.specs.Faults.{all_function_faults}
use Rattle.data_types.proofs.declared.check_functions.Given as goal

abbrev pub invariant-loop-function : goal.invariant-loop-function
invariant-loop-function l = after l.least (all_function_faults l.names (map function (drop l.function-index l.functions))) ≡ after l.initial.least (all_function_faults l.names (map function l.functions))
