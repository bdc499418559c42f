-- What the values of the code stand for.
use Rattle.std.specs.Prelude.{◌-◌, List, [], ◌∷◌, map}
use Rattle.data_types.specs.Types as t
use Rattle.fip_trees.specs.declared.decls.FieldType.{FieldType}
use Rattle.fip_trees.specs.declared.decls.FieldType.TheOpen as T
use Rattle.fip_trees.specs.declared.decls.FieldType.TheFolds.{fold-FieldType}
use Rattle.fip_trees.specs.declared.decls.DeclaredConstructor.{DeclaredConstructor}
use Rattle.fip_trees.specs.declared.decls.DeclaredType.{DeclaredType}

abbrev pub row : List t.Ty → t.Tys
row [] = t.NoTys
row (x ∷ xs) = t.MoreTys x (row xs)

abbrev pub ty_step : T.FieldType-F t.Ty → t.Ty
ty_step T.Int = t.Given
ty_step (T.Parameter k) = t.Parameter k
ty_step (T.Applied n ts) = t.Applied (n - 1) (row ts.items)

abbrev pub ty : FieldType → t.Ty
ty = fold-FieldType t.Ty ty_step

abbrev pub tys : List FieldType → t.Tys
tys ts = row (map ty ts)

abbrev pub fields : DeclaredConstructor → t.Tys
fields c = tys c.fields.items

abbrev pub declared : DeclaredType → t.Declared
declared d = record { arity = d.arity; constructors = map fields d.constructors.items }

abbrev pub declarations : List DeclaredType → t.Declarations
declarations = map declared
