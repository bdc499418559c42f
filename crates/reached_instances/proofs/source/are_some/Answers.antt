use Rattle.std.proofs.Common.{◌≡◌, ◌≤◌, List, [], ◌∷◌, map, length, true, not, refl, arith}
use Rattle.fip_trees.specs.declared.decls.FieldType.{FieldType}
use Rattle.closed_types.specs.Source.{none_of}
use Rattle.closed_types.specs.DeclaredView.{ty, tys_of}
use Rattle.reached_instances.proofs.source.are_some.Goals as goal

some : (xs : List FieldType) → 1 ≤ length xs → true ≡ not (none_of (tys_of (map ty xs)))
some [] h = absurd (omega (arith, h))
some (x ∷ xs) h = refl

pub returns-in-len1-up : goal.returns-in-len1-up
returns-in-len1-up c = some c.args.fields.now c.in-len1-up.len_at_least
