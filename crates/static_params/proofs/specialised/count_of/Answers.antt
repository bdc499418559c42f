use Rattle.std.proofs.Common.{◌≡◌, suc, List, [], ◌∷◌, map, length, refl, ap}
use Rattle.fip_trees.specs.declared.decls.FieldType.{FieldType}
use Rattle.static_params.specs.FlatProgram.{count_tys}
use Rattle.reached_instances.specs.closed_types.DeclaredView.{ty, tys_of}
use Rattle.static_params.proofs.specialised.count_of.Goals as goal

counted : (ts : List FieldType) → length ts ≡ count_tys (tys_of (map ty ts))
counted [] = refl
counted (t ∷ ts) = ap suc (counted ts)

pub returns : goal.returns
returns c = counted c.args.fields.now
