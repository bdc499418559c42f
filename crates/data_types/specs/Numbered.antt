-- Whether the data types that fields name have numbers. Number 0 is int, which is no data type, so that a field never
-- applies it.
use Rattle.std.specs.Prelude.{◌≡◌, ◌<◌, Bool, true, ◌&&◌, List, [], ◌∷◌, map, nat_lt, Some}
use Rattle.fip_language.specs.Core.{Name}
use Rattle.fip_trees.specs.Names.{Names, meaning}
use Rattle.fip_trees.specs.declared.decls.TypeHead.{TypeHead}
use Rattle.fip_trees.specs.declared.decls.FieldType.{FieldType}
use Rattle.fip_trees.specs.declared.decls.FieldType.TheOpen as T
use Rattle.fip_trees.specs.declared.decls.FieldType.TheFolds.{fold-FieldType}
use Rattle.fip_trees.specs.declared.decls.DeclaredConstructor.{DeclaredConstructor}
use Rattle.fip_trees.specs.declared.decls.DeclaredType.{DeclaredType}

abbrev pub all_true : List Bool → Bool
all_true [] = true
all_true (b ∷ bs) = b && all_true bs

abbrev pub numbered_step : T.FieldType-F Bool → Bool
numbered_step T.Int = true
numbered_step (T.Parameter k) = true
numbered_step (T.Applied n ts) = nat_lt 0 n && all_true ts.items

abbrev pub is_numbered : FieldType → Bool
is_numbered = fold-FieldType Bool numbered_step

abbrev pub are_numbered : List FieldType → Bool
are_numbered ts = all_true (map is_numbered ts)

abbrev pub row_numbered : DeclaredConstructor → Bool
row_numbered k = are_numbered k.fields.items

abbrev pub type_numbered : DeclaredType → Bool
type_numbered d = all_true (map row_numbered d.constructors.items)

abbrev pub types_numbered : List DeclaredType → Bool
types_numbered ds = all_true (map type_numbered ds)

-- each name of a data type means one with a number
abbrev pub HasNumbers : Names → Type 0
HasNumbers ns = (n : Name) (h : TypeHead) → meaning n ns.types ≡ Some h → 0 < h.number
