-- What declarations stand for.
use Rattle.std.specs.Prelude.{List, [], ◌∷◌, map}
use Rattle.fip_base.specs.fip_language.Core.{Function}
use Rattle.fip_trees.specs.declared.decls.FieldType.{FieldType}
use Rattle.fip_trees.specs.declared.decls.FieldType.TheOpen as T
use Rattle.fip_trees.specs.declared.decls.FieldType.TheFolds.{fold-FieldType}
use Rattle.fip_trees.specs.declared.decls.DeclaredConstructor.{DeclaredConstructor}
use Rattle.fip_trees.specs.declared.decls.DeclaredType.{DeclaredType}
use Rattle.fip_trees.specs.declared.decls.Decls.{Decls}
use Rattle.closed_types.specs.Closed.{Applied}
use Rattle.closed_types.specs.Source.{Ty, Plain, Parameter, Of, Tys, NoTys, MoreTys, Constructor, Declared, Source}

abbrev pub tys_of : List Ty → Tys
tys_of [] = NoTys
tys_of (t ∷ ts) = MoreTys t (tys_of ts)

abbrev pub ty_step : T.FieldType-F Ty → Ty
ty_step T.Int = Plain
ty_step (T.Parameter k) = Parameter k
ty_step (T.Applied n ts) = Of n (tys_of ts.items)

abbrev pub ty : FieldType → Ty
ty = fold-FieldType Ty ty_step

abbrev pub constructor : DeclaredConstructor → Constructor
constructor k = record { name = k.name.now; fields = tys_of (map ty k.fields.items) }

abbrev pub declared : DeclaredType → Declared
declared d = record { arity = d.arity; constructors = map constructor d.constructors.items }

-- these declarations, with these functions
abbrev pub declared_with : Decls → List Function → Source
declared_with decls fs = record { names = decls.names; types = map declared decls.types.items; functions = fs }
