use Rattle.std.proofs.Common.{◌≡◌, drop, take, map, ◌++◌}
use Rattle.lowering_relation.specs.Known as K
use Rattle.lower_frame.proofs.frame.lose_lent.Given as goal

abbrev pub invariant-loop-held : goal.invariant-loop-held
invariant-loop-held l = take l.held-index l.held-items ++ map (K.without l.register) (drop l.held-index l.held-items) ≡ map (K.without l.register) l.initial.held-items
