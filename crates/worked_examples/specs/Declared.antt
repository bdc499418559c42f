-- Data types of the examples, each alone: one whose values are finite, and two that have none.
use Rattle.std.specs.Prelude.{[], ◌∷◌}
use Rattle.source_report.specs.data_types.Types.{Ty, Parameter, Applied, Tys, NoTys, MoreTys, Declarations}

abbrev pub only : Ty → Tys
only t = MoreTys t NoTys

-- data list[a] { Nil; Cons(a, list[a]) }
abbrev pub list_type : Declarations
list_type = record {
  arity = 1;
  constructors = NoTys ∷ MoreTys (Parameter 0) (only (Applied 0 (only (Parameter 0)))) ∷ [];
} ∷ []

-- data inf { Mk(inf) }
abbrev pub endless_type : Declarations
endless_type = record { arity = 0; constructors = only (Applied 0 NoTys) ∷ [] } ∷ []

-- data grow[a] { Grow(grow[list[a]]) } with list of number 1: the argument grows from turn to turn
abbrev pub growing_type : Declarations
growing_type = record { arity = 1; constructors = only (Applied 0 (only (Applied 1 (only (Parameter 0))))) ∷ [] }
    ∷ record { arity = 1; constructors = NoTys ∷ [] } ∷ []
