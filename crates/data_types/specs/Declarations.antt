-- What a program declares. bool, with the constructors False and True, is declared before all others; where a name is
-- declared twice it means its first declaration.
-- In `data list[a] { Nil; Cons(a, list[a]) }` list is data type 2 with one parameter, Nil is its constructor 0 and Cons
-- its constructor 1, with the fields Parameter 0 and list at Parameter 0. Data type 1 is bool.
use Rattle.std.specs.Prelude.{◌≡◌, ℕ, suc, ◌-◌, ◌==◌, List, [], ◌∷◌, ◌++◌, map, length, Option, Some, None}
use Rattle.std.specs.Prelude.{if◌then◌else◌}
use Rattle.fip_language.specs.Core.{Name, Written, WrittenInt, WrittenName, Writtens, NoWritten, MoreWritten}
use Rattle.fip_language.specs.Core.{Static, TypeParameter, FunctionParameter, TypeName, DataConstructor, Data, Function}
use Rattle.fip_language.specs.Core.{Core, writtens_of}
use Rattle.fip_language.specs.Declarations.{bool_type, data_types}
use Rattle.fip_trees.specs.Names.{Names, meaning, with_meanings}
use Rattle.fip_trees.specs.declared.decls.TypeHead.{TypeHead}
use Rattle.fip_trees.specs.declared.decls.ConstructorId.{ConstructorId}
use Rattle.data_types.specs.Types as t

-- ---- names

-- the data types, numbered from n on, each with the number of its parameters
abbrev pub type_meanings : ℕ → List Data → List (Name × TypeHead)
type_meanings n [] = []
type_meanings n (d ∷ ds) = (d.name, record { number = n; arity = length d.parameters }) ∷ type_meanings (suc n) ds

-- the constructors of data type n, numbered from c on
abbrev pub row_meanings : ℕ → ℕ → List DataConstructor → List (Name × ConstructorId)
row_meanings n c [] = []
row_meanings n c (k ∷ ks) = (k.name, record { «data» = n; number = c }) ∷ row_meanings n (suc c) ks

-- those of the data types, numbered from n on
abbrev pub constructor_meanings : ℕ → List Data → List (Name × ConstructorId)
constructor_meanings n [] = []
constructor_meanings n (d ∷ ds) = row_meanings n 0 d.constructors ++ constructor_meanings (suc n) ds

-- the functions, by their places from i on
abbrev pub function_meanings : ℕ → List Function → List (Name × ℕ)
function_meanings i [] = []
function_meanings i (f ∷ fs) = (f.name, i) ∷ function_meanings (suc i) fs

-- all of them, in text order
abbrev pub written_names : Core → Names
written_names core = record {
  types = type_meanings 1 (data_types core);
  constructors = constructor_meanings 1 (data_types core);
  functions = function_meanings 0 core.functions;
}

-- each name with its first meaning alone
abbrev pub declared_names : Core → Names
declared_names core = record {
  types = with_meanings [] (written_names core).types;
  constructors = with_meanings [] (written_names core).constructors;
  functions = with_meanings [] (written_names core).functions;
}

-- bool, False and True
abbrev pub predeclared : Names
predeclared = record {
  types = type_meanings 1 (bool_type ∷ []);
  constructors = constructor_meanings 1 (bool_type ∷ []);
  functions = [];
}

-- the type parameters of a data type, numbered from k on
abbrev pub parameter_meanings : ℕ → List TypeName → List (Name × ℕ)
parameter_meanings k [] = []
parameter_meanings k (p ∷ ps) = (p.name, k) ∷ parameter_meanings (suc k) ps

-- those of a function's header, numbered by their places among the static parameters from k on
abbrev pub static_meanings : ℕ → List Static → List (Name × ℕ)
static_meanings k [] = []
static_meanings k (TypeParameter n p ∷ ss) = (n, k) ∷ static_meanings (suc k) ss
static_meanings k (FunctionParameter n p ps r ∷ ss) = static_meanings (suc k) ss

-- ---- types

-- what may be mentioned: the names of the program, and the type parameters around
pub record Scope : Type 0 where
  pub names : Names
  pub parameters : List (Name × ℕ)

abbrev pub count_tys : t.Tys → ℕ
count_tys t.NoTys = 0
count_tys (t.MoreTys u us) = suc (count_tys us)

-- A type parameter without arguments, or a data type with as many as it has parameters. Anything else breaks E11 or E12
-- and counts as int, so that E13 requires nothing of it.
abbrev pub meant : Option ℕ → Option TypeHead → t.Tys → t.Ty
meant (Some k) o us = if count_tys us == 0 then t.Parameter k else t.Given
meant None None us = t.Given
meant None (Some h) us = if h.arity == count_tys us then t.Applied (h.number - 1) us else t.Given

-- a type that is written, its names looked up
abbrev mutual
  pub looked_up : Scope → Written → t.Ty
  looked_up s (WrittenInt p) = t.Given
  looked_up s (WrittenName n p ws) = meant (meaning n s.parameters) (meaning n s.names.types) (all_looked_up s ws)

  pub all_looked_up : Scope → Writtens → t.Tys
  all_looked_up s NoWritten = t.NoTys
  all_looked_up s (MoreWritten w ws) = t.MoreTys (looked_up s w) (all_looked_up s ws)

abbrev pub looked_up_each : Scope → List Written → t.Tys
looked_up_each s ws = all_looked_up s (writtens_of ws)

abbrev pub data_scope : Names → Data → Scope
data_scope ns d = record { names = ns; parameters = with_meanings [] (parameter_meanings 0 d.parameters) }

-- in the whole header and the body
abbrev pub function_scope : Names → Function → Scope
function_scope ns f = record { names = ns; parameters = with_meanings [] (static_meanings 0 f.statics) }

abbrev pub constructor_fields : Scope → DataConstructor → t.Tys
constructor_fields s k = looked_up_each s k.fields

abbrev pub data_declared : Names → Data → t.Declared
data_declared ns d = record {
  arity = length d.parameters;
  constructors = map (constructor_fields (data_scope ns d)) d.constructors;
}

-- the data types of a program, bool before all others
abbrev pub declarations : Core → t.Declarations
declarations core = map (data_declared (declared_names core)) (data_types core)

-- the names of their constructors
abbrev pub constructor_name : DataConstructor → Name
constructor_name k = k.name

abbrev pub row_names : Data → List Name
row_names d = map constructor_name d.constructors
