use Rattle.std.proofs.Common.{◌≡◌, ◌++◌, drop, map}
use Rattle.match_knowledge.specs.View.{known}
use Rattle.match_knowledge.proofs.knowledge.+copy.Given as goal

abbrev pub invariant-copy_all-loop-k : goal.invariant-copy_all-loop-k
invariant-copy_all-loop-k l = map known l.new.items ++ map known (drop l.k-index l.ks) ≡ map known l.ks
