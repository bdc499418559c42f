-- What a program declares: its types, constructors and functions by name. bool, with the constructors False and True,
-- is declared before all others. Where a name is declared twice, the first declaration is the one that it means.
-- In `data ints { Nil; Cons(int, ints) }` the type ints has the number 2, Nil is its constructor 0 and Cons its
-- constructor 1, with the fields int and ints.
use Rattle.std.specs.Prelude.{ℕ, suc, Bool, List, [], ◌∷◌, Option, Some, None, bytes_eq, codes, if◌then◌else◌}
use Rattle.fip_language.specs.declared.Place.{Place}
use Rattle.fip_language.specs.Core.{Name, Written, Function, DataConstructor, Data, Core}

abbrev pub same_name : Name → Name → Bool
same_name = bytes_eq

-- what is declared beforehand has no place in the source
abbrev pub beforehand : Place
beforehand = record { line = 0; col = 0; at = 0 }

abbrev pub bool_type : Data
bool_type = record {
  name = codes "bool";
  place = beforehand;
  parameters = [];
  constructors = record { name = codes "False"; place = beforehand; fields = [] }
      ∷ record { name = codes "True"; place = beforehand; fields = [] } ∷ [];
}

-- the data types, bool before all others
abbrev pub data_types : Core → List Data
data_types core = bool_type ∷ core.types

abbrev pub or_else : {A : Type 0} → Option A → Option A → Option A
or_else (Some a) o = Some a
or_else None o = o

-- A declared constructor: the number of its type, its own number in that type, and its fields as they are written.
pub record Declared : Type 0 where
  pub type : ℕ
  pub number : ℕ
  pub fields : List Written

-- among the constructors of type t from number c on
abbrev pub constructor_among : Name → ℕ → ℕ → List DataConstructor → Option Declared
constructor_among name t c [] = None
constructor_among name t c (k ∷ ks) = if same_name name k.name then Some
    (record { type = t; number = c; fields = k.fields }) else constructor_among name t (suc c) ks

-- among the types from number t on
abbrev pub constructor_in : Name → ℕ → List Data → Option Declared
constructor_in name t [] = None
constructor_in name t (d ∷ ds) = or_else (constructor_among name t 0 d.constructors) (constructor_in name (suc t) ds)

-- int is type 0 and has no constructor
abbrev pub constructor_of : Core → Name → Option Declared
constructor_of core name = constructor_in name 1 (data_types core)

abbrev pub function_in : Name → List Function → Option Function
function_in name [] = None
function_in name (f ∷ fs) = if same_name name f.name then Some f else function_in name fs

abbrev pub function_of : Core → Name → Option Function
function_of core name = function_in name core.functions
