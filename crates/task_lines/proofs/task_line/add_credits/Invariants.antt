use Rattle.std.proofs.Common.{take}
use Rattle.fip_language.specs.Store.{count}
use Rattle.value_text.specs.Loaded.{AreCredits}
use Rattle.session_values.specs.Read.{Adds}
use Rattle.task_lines.proofs.task_line.add_credits.Given as goal

-- the first credits are counted
abbrev pub invariant-loop-size : goal.invariant-loop-size
invariant-loop-size l = AreCredits l.credits → Adds l.initial.counts l.counts (λ k. count k (take l.size-index l.credits))
