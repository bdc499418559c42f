-- What the numbers of a body mean: the types, the data types that declare them, and the headers of the instances.
use Rattle.std.specs.Prelude.{ℕ, zero, suc, ◌^◌, Bool, false, List, [], ◌∷◌, nat_lt, ◌==◌, if◌then◌else◌}
use Rattle.std.specs.Prelude.{map, length, Option, Some, None, slice_get}
use Rattle.fip_language.specs.declared.Operator.{Operator}
use Rattle.fip_language.specs.declared.Operator.TheVariants as O
use Rattle.fip_language.specs.Table.{Table, constructors}
use Rattle.fip_base.specs.declared.plain.Param.{Param}
use Rattle.fip_base.specs.TableView.{fields_at}
use Rattle.fip_trees.specs.Tree.{Instance, Program}
use Rattle.type_check.specs.Found.{or_found}

-- the types of an instance's parameters and results
pub record Head : Type 0 where
  pub parameters : List ℕ
  pub results : List ℕ

-- The lists `declaring`, `arities` and `counts` are those of the program.
pub record World : Type 0 where
  pub types : Table
  pub declaring : List ℕ
  pub arities : List ℕ
  pub counts : List (List ℕ)
  pub heads : List Head

abbrev pub type_of : Param → ℕ
type_of p = p.ty

abbrev pub head_of : Instance → Head
head_of d = record { parameters = map type_of d.params; results = d.results }

-- the world of a program
abbrev pub world : Program → World
world p =
    record {
      types = p.types;
      declaring = p.declaring;
      arities = p.arities;
      counts = p.field_counts;
      heads = map head_of p.instances;
    }

-- what a list has for a number from 1
abbrev pub numbered : List ℕ → ℕ → Option ℕ
numbered xs zero = None
numbered xs (suc n) = slice_get xs n

abbrev pub is_number : Option ℕ → ℕ → Bool
is_number None d = false
is_number (Some e) d = e == d

-- whether a type is declared by a data type
abbrev pub is_of : World → ℕ → ℕ → Bool
is_of w t d = is_number (numbered w.declaring t) d

-- a type's number has 32 bits
abbrev pub narrow : ℕ → Option ℕ
narrow n = if nat_lt n (2 ^ 32) then Some n else None

-- The first type that a data type declares. The list has for each type, from the one with number n on, the data type
-- that declares it.
abbrev pub first_declared : List ℕ → ℕ → ℕ → Option ℕ
first_declared [] n d = None
first_declared (e ∷ es) n d = or_found (if e == d then narrow n else None) (first_declared es (suc n) d)

-- the same of a data type without parameters, and none of any other
abbrev pub plain_in : List ℕ → List ℕ → ℕ → ℕ → Option ℕ
plain_in arities es n d = if is_number (numbered arities d) 0 then first_declared es n d else None

-- the type of a data type without parameters
abbrev pub plain_type : World → ℕ → Option ℕ
plain_type w d = plain_in w.arities w.declaring 1 d

-- The type of a constructor of a data type: the one expected where that data type declares it, else that of the data
-- type itself where it has no parameters.
abbrev pub chosen : World → Option (Option ℕ) → ℕ → Option ℕ
chosen w None d = plain_type w d
chosen w (Some None) d = plain_type w d
chosen w (Some (Some t)) d = if is_of w t d then Some t else plain_type w d

-- the types of the fields of a type's constructor
abbrev pub fields_of : World → ℕ → ℕ → List ℕ
fields_of w t c = fields_at (constructors w.types t) c

-- The types expected of a constructor's arguments. Where its type isn't known, nor are its fields' types.
abbrev pub field_types : World → Option ℕ → ℕ → List (Option ℕ)
field_types w None c = []
field_types w (Some t) c = map Some (fields_of w t c)

abbrev pub or_empty : Option (List ℕ) → List ℕ
or_empty None = []
or_empty (Some ts) = ts

abbrev pub or_zero : Option ℕ → ℕ
or_zero None = 0
or_zero (Some n) = n

-- the numbers of fields of a data type's constructors
abbrev pub counts_of : List (List ℕ) → ℕ → List ℕ
counts_of rows zero = []
counts_of rows (suc n) = or_empty (slice_get rows n)

-- the number of a constructor's fields, by its type where that is known, else by its data type
abbrev pub field_count : World → Option ℕ → ℕ → ℕ → ℕ
field_count w None d c = or_zero (slice_get (counts_of w.counts d) c)
field_count w (Some t) d c = length (fields_of w t c)

abbrev pub head_or_none : Option Head → Head
head_or_none None = record { parameters = []; results = [] }
head_or_none (Some h) = h

-- the header of an instance
abbrev pub head : World → ℕ → Head
head w g = head_or_none (slice_get w.heads g)

-- the type of an operator's result: int, or bool where it compares
abbrev pub result_of : Operator → ℕ
result_of O.Add = 0
result_of O.Subtract = 0
result_of O.Multiply = 0
result_of O.Divide = 0
result_of O.Remainder = 0
result_of O.Equal = 1
result_of O.NotEqual = 1
result_of O.Less = 1
result_of O.LessOrEqual = 1
result_of O.Greater = 1
result_of O.GreaterOrEqual = 1
