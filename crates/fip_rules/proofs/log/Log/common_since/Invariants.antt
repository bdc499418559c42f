use Rattle.std.proofs.Common.{◌≡◌, ◌++◌, drop}
use Rattle.std.specs.Prelude.{filter}
use Rattle.fip_rules.specs.Notes.{has}
use Rattle.fip_rules.proofs.log.Log.common_since.Given as goal

abbrev pub invariant-loop-number : goal.invariant-loop-number
invariant-loop-number l = l.out.items ++ filter (λ x. has (drop l.kept l.self) x) (drop l.number-index l.numbers) ≡ filter (λ x. has (drop l.kept l.self) x) l.numbers
