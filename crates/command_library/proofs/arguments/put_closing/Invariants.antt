use Rattle.std.proofs.Common.{◌≡◌, ◌-◌, ◌++◌}
use Rattle.command_library.specs.MadeTree.{closing}
use Rattle.command_library.proofs.arguments.put_closing.Given as goal

abbrev pub invariant-loop : goal.invariant-loop
invariant-loop l = l.text.items ++ closing (l.count - l.counter) ≡ l.fn.text.items ++ closing l.count
