use Rattle.std.proofs.Common.{◌≡◌, ◌++◌, drop, map}
use Rattle.fip_base.specs.CoreView as V
use Rattle.reached_instances.proofs.source.add_writtens.Given as goal

abbrev pub invariant-loop-written : goal.invariant-loop-written
invariant-loop-written l = map (λ w. V.written w.now) l.header.items ++ map V.written (drop l.written-index l.list) ≡ map (λ w. V.written w.now) l.initial.header.items ++ map V.written l.list
