use Rattle.std.proofs.Common.{◌≡◌, ◌++◌, drop}
use Rattle.fip_rules.proofs.log.Log.append_since.Given as goal

abbrev pub invariant-loop-place : goal.invariant-loop-place
invariant-loop-place l = l.out.items ++ drop l.place l.self ≡ l.initial.out.items ++ drop l.kept l.self
