use Rattle.std.proofs.Common.{◌≡◌, drop, take, map, ◌++◌}
use Rattle.lowering_relation.specs.Matches.{widened}
use Rattle.lower_frame.proofs.frame.widen_all.Given as goal

abbrev pub invariant-loop-held : goal.invariant-loop-held
invariant-loop-held l = take l.held-index l.held-items ++ map widened (drop l.held-index l.held-items) ≡ map widened l.initial.held-items
