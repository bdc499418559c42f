-- What monomorphising starts from, by the core form alone: what the names of a program mean, its data types with bool
-- before them, and its functions.
-- In `data list[a] { Nil; Cons(a, list[a]) }` the data type 2 has one parameter, and the fields of Cons are parameter 0
-- and data type 2 at parameter 0.
use Rattle.std.specs.Prelude.{suc, map, length}
use Rattle.fip_language.specs.Core.{DataConstructor, Data, Core}
use Rattle.fip_language.specs.Declarations.{data_types}
use Rattle.fip_trees.specs.Names.{Names}
use Rattle.data_types.specs.Types as D
use Rattle.data_types.specs.Declarations.{Scope, data_scope, constructor_fields, declared_names, written_names}
use Rattle.reached_instances.specs.closed_types.Source.{Ty, Plain, Parameter, Of, Tys, NoTys, MoreTys, Constructor, Declared, Source}

-- A field's type. Data types are numbered from 1 here, from 0 among the declarations.
abbrev mutual
  pub field : D.Ty → Ty
  field D.Given = Plain
  field (D.Parameter k) = Parameter k
  field (D.Applied t ts) = Of (suc t) (fields ts)

  pub fields : D.Tys → Tys
  fields D.NoTys = NoTys
  fields (D.MoreTys t ts) = MoreTys (field t) (fields ts)

abbrev pub constructor : Scope → DataConstructor → Constructor
constructor s k = record { name = k.name; fields = fields (constructor_fields s k) }

abbrev pub declared : Names → Data → Declared
declared ns d =
    record { arity = length d.parameters; constructors = map (constructor (data_scope ns d)) d.constructors }

abbrev pub flat_source : Core → Source
flat_source core =
    record {
      names = written_names core;
      types = map (declared (declared_names core)) (data_types core);
      functions = core.functions;
    }
