use Rattle.std.proofs.Common.{◌≡◌, drop}
use Rattle.kind_domain.specs.code_rules.Kinds.{has}
use Rattle.register_kinds.proofs.asks.stands_in.Given as goal

abbrev pub invariant-loop-other : goal.invariant-loop-other
invariant-loop-other l = has (drop l.other-index l.numbers) l.number ≡ has l.numbers l.number
