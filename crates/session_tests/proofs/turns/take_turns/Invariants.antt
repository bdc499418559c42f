use Rattle.std.proofs.Common.{◌≡◌, length}
use Rattle.session_tests.proofs.turns.take_turns.Given as goal

-- the tasks stay as many
abbrev pub invariant-loop : goal.invariant-loop
invariant-loop l = length l.tasks.tasks ≡ length l.initial.tasks.tasks
