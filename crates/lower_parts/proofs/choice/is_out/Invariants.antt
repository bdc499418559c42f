use Rattle.std.proofs.Common.{◌≡◌, drop}
use Rattle.match_knowledge.specs.Known.{is_in}
use Rattle.lower_parts.proofs.choice.is_out.Given as goal

abbrev pub invariant-loop-one : goal.invariant-loop-one
invariant-loop-one l = is_in l.head (drop l.one-index l.out) ≡ is_in l.head l.out
