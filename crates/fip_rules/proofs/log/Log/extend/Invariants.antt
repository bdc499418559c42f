use Rattle.std.proofs.Common.{◌≡◌, ◌++◌, drop}
use Rattle.fip_rules.proofs.log.Log.extend.Given as goal

abbrev pub invariant-loop-number : goal.invariant-loop-number
invariant-loop-number l = l.self ++ drop l.number-index l.numbers ≡ l.initial.self ++ l.numbers
