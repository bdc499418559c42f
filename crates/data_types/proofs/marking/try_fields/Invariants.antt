use Rattle.std.proofs.Common.{drop}
use Rattle.data_types.specs.View as v
use Rattle.data_types.proofs.Extending.{Trying}
use Rattle.data_types.proofs.marking.try_fields.Given as goal

abbrev pub invariant-loop-ty : goal.invariant-loop-ty
invariant-loop-ty l = Trying l.initial.claims l.claims l.bits (v.tys l.fields) (v.tys (drop l.ty-index l.fields)) l.needs.items
