use Rattle.std.proofs.Common.{◌≡◌, drop, take, map, ◌++◌}
use Rattle.lowering_relation.specs.LoweredFunctions.{unless_in}
use Rattle.lower_frame.proofs.frame.lose_name.Given as goal

abbrev pub invariant-loop-name : goal.invariant-loop-name
invariant-loop-name l = take l.name-index l.name-items ++ map (unless_in l.register) (drop l.name-index l.name-items) ≡ map (unless_in l.register) l.initial.name-items
