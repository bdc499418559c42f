use Rattle.std.proofs.Common.{◌≡◌, ◌++◌, map, take, drop}
use Rattle.plain_eval.specs.Moving.{placed}
use Rattle.plain_eval.proofs.collect.place_all.Given as goal

abbrev pub invariant-loop-i : goal.invariant-loop-i
invariant-loop-i l = l.values.items ≡ map (placed l.places) (take l.i l.fn.values.items) ++ drop l.i l.fn.values.items
