use Rattle.std.proofs.Common.{◌≡◌, drop}
use Rattle.call_groups.specs.Raises.{over_calls, start}
use Rattle.call_groups.proofs.stack_numbers.stack_from.Given as goal

abbrev pub invariant-loop-call : goal.invariant-loop-call
invariant-loop-call l =
    over_calls l.groups l.found l.group l.frame l.stack (drop l.call-index l.calls)
    ≡ over_calls l.groups l.found l.group l.frame (start l.frame) l.calls
