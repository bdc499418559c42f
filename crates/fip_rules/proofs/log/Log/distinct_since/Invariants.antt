use Rattle.std.proofs.Common.{◌≡◌, ◌++◌, drop}
use Rattle.fip_rules.specs.Notes.{distinct}
use Rattle.fip_rules.proofs.log.Log.distinct_since.Given as goal

abbrev pub invariant-loop-place : goal.invariant-loop-place
invariant-loop-place l = l.out.items ++ distinct (drop l.place l.self) ≡ distinct (drop l.kept l.self)
