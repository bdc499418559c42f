use Rattle.std.proofs.Common.{drop}
use Rattle.data_types.specs.View as v
use Rattle.data_types.proofs.Extending.{Looking}
use Rattle.data_types.proofs.marking.+look.Given as goal

abbrev pub invariant-look_all-loop-ty : goal.invariant-look_all-loop-ty
invariant-look_all-loop-ty l = Looking l.initial.claims l.claims l.bits (v.tys l.types) (v.tys (drop l.ty-index l.types)) l.all.items
