use Rattle.data_types.proofs.Rooting.{Telling}
use Rattle.data_types.proofs.valued.root_marks.Given as goal

abbrev pub invariant-loop-t : goal.invariant-loop-t
invariant-loop-t l = Telling l.claims l.found.items l.t
