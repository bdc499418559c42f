use Rattle.std.proofs.Common.{◌≡◌, ◌++◌, drop, map}
use Rattle.match_knowledge.specs.View.{known}
use Rattle.match_cover.proofs.missing.with_copies.Given as goal

abbrev pub invariant-loop-k : goal.invariant-loop-k
invariant-loop-k l = map known l.all.items ++ map known (drop l.k-index l.others) ≡ map known l.fn.first.items ++ map known l.others
