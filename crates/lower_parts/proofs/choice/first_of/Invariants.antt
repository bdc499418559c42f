use Rattle.match_knowledge.specs.View.{rows, known}
use Rattle.lower_parts.proofs.Choosing.{MissedUpTo}
use Rattle.lower_parts.proofs.choice.first_of.Given as goal

abbrev pub invariant-loop-number : goal.invariant-loop-number
invariant-loop-number l = MissedUpTo (rows l.rows) (known l.known) l.number
