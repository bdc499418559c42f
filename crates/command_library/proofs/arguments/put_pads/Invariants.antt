use Rattle.std.proofs.Common.{◌≡◌, ◌-◌, ◌++◌}
use Rattle.command_library.specs.MadeTree.{pads_line}
use Rattle.command_library.proofs.arguments.put_pads.Given as goal

abbrev pub invariant-loop : goal.invariant-loop
invariant-loop l = l.text.items ++ pads_line (l.count - l.counter) l.counter ≡ l.fn.text.items ++ pads_line l.count 0
