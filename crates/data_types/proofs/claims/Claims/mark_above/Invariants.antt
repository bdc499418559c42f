use Rattle.data_types.specs.Types.{Declarations}
use Rattle.data_types.specs.Marks.{Holds}
use Rattle.data_types.specs.Steps.{GoesIf}
use Rattle.data_types.proofs.claims.Claims.mark_above.Given as goal

abbrev pub invariant-loop-other : goal.invariant-loop-other
invariant-loop-other l = (ds : Declarations) → GoesIf ds (Holds ds l.ty l.arguments) l.initial.self l.self
