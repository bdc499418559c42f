use Rattle.data_types.specs.View as v
use Rattle.data_types.specs.Steps.{HasRoots}
use Rattle.data_types.proofs.valued.list_roots.Given as goal

abbrev pub invariant-loop-t : goal.invariant-loop-t
invariant-loop-t l = HasRoots (v.declarations l.declared) l.claims l.t
