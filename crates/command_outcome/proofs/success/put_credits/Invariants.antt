use Rattle.std.proofs.Common.{◌≡◌, ◌++◌, drop}
use Rattle.command_outcome.specs.Successes.{credits_text}
use Rattle.command_outcome.proofs.success.put_credits.Given as goal

abbrev pub invariant-loop-size : goal.invariant-loop-size
invariant-loop-size l = l.text.items ++ credits_text (drop l.size-index l.credits) ≡ l.fn.text.items ++ credits_text l.credits
