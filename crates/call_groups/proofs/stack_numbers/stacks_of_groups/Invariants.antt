use Rattle.std.proofs.Common.{◌≡◌, drop, length, replicate, None}
use Rattle.call_groups.specs.CallGraph.{rows}
use Rattle.call_groups.specs.Raises.{over_functions}
use Rattle.call_groups.proofs.stack_numbers.stacks_of_groups.Given as goal

abbrev pub invariant-loop-function : goal.invariant-loop-function
invariant-loop-function l =
    over_functions (rows l.calls) l.groups l.frames l.found.items (drop l.function-index l.groups.order.items)
    ≡ over_functions (rows l.calls) l.groups l.frames (replicate (length (rows l.calls)) None) l.groups.order.items
