use Rattle.std.proofs.Common.{List, Bool, drop}
use Rattle.data_types.specs.Marks.{Below, HasAll}
use Rattle.data_types.proofs.found.add_all.Given as goal

abbrev pub invariant-loop-place : goal.invariant-loop-place
invariant-loop-place l = (bs : List Bool) → Below l.set bs → HasAll bs (drop l.place-index l.places) → HasAll bs l.places
