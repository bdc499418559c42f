use Rattle.std.proofs.Common.{◌≡◌, ◌++◌, drop}
use Rattle.call_groups.specs.Raises.{entries}
use Rattle.call_groups.proofs.stack_numbers.stacks_of_functions.Given as goal

abbrev pub invariant-loop-frame : goal.invariant-loop-frame
invariant-loop-frame l = record {
  number : l.function ≡ l.frame-index;
  rest : l.stacks.items ++ entries l.groups l.of_groups l.function (drop l.frame-index l.frames) ≡ entries l.groups l.of_groups 0 l.frames;
}
