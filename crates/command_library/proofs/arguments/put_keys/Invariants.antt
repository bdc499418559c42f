use Rattle.std.proofs.Common.{◌≡◌, ◌-◌, ◌++◌}
use Rattle.task_semantics.specs.Draws.{numbers}
use Rattle.command_library.specs.MadeTree.{keys_line}
use Rattle.command_library.proofs.arguments.put_keys.Given as goal

abbrev pub invariant-loop : goal.invariant-loop
invariant-loop l = l.text.items ++ keys_line (numbers (l.count - l.counter) l.key) l.counter ≡ l.fn.text.items ++ keys_line (numbers l.count l.seed) 0
