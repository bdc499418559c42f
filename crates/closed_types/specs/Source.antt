-- The program that is specialised: what its names mean, its data types and its functions; and what is looked up in it.
use Rattle.std.specs.Prelude.{ℕ, zero, suc, ◌-◌, Bool, true, false, ◌&&◌, List, [], ◌∷◌, Option, Some, None, slice_get}
use Rattle.fip_base.specs.fip_language.Core.{Name, Static, TypeParameter, FunctionParameter, Function}
use Rattle.fip_trees.specs.Names.{Names, meaning, with_meanings}
use Rattle.closed_types.specs.declared.closed.Head.TheVariants as H
use Rattle.closed_types.specs.Closed.{Closed, Closeds, Int, Applied, closed_at}

-- A field's type: int, a type parameter of the data type by its number, or a data type by its number with its
-- arguments.
mutual
  pub data Ty : Type 0 where
    Plain : Ty
    Parameter : (k : ℕ) → Ty
    Of : (number : ℕ) (arguments : Tys) → Ty

  pub data Tys : Type 0 where
    NoTys : Tys
    MoreTys : (t : Ty) (ts : Tys) → Tys

-- a constructor: its name, and the types of its fields
pub record Constructor : Type 0 where
  pub name : Name
  pub fields : Tys

-- a data type: how many parameters it has, and its constructors
pub record Declared : Type 0 where
  pub arity : ℕ
  pub constructors : List Constructor

-- Data type 1, which is bool, is the first of `types`.
pub record Source : Type 0 where
  pub names : Names
  pub types : List Declared
  pub functions : List Function

-- the data type with this number, from 1; int, whose number is 0, is none
abbrev pub declared_at : Source → ℕ → Option Declared
declared_at s zero = None
declared_at s (suc n) = slice_get s.types n

abbrev pub none_of : Tys → Bool
none_of NoTys = true
none_of (MoreTys t ts) = false

abbrev pub all_none : List Constructor → Bool
all_none [] = true
all_none (k ∷ ks) = none_of k.fields && all_none ks

-- none of its constructors has a field
abbrev pub is_bare : Declared → Bool
is_bare d = all_none d.constructors

abbrev pub bare_or : Option Declared → Bool
bare_or None = true
bare_or (Some d) = is_bare d

-- int, and the data types none of whose constructors has a field
abbrev pub is_scalar : Source → Closed → Bool
is_scalar s Int = true
is_scalar s (Applied (H.«Type» n) cs) = bare_or (slice_get s.types (n - 1))
is_scalar s (Applied (H.Function f) cs) = true

-- ---- what is given for static parameters

-- a function by its place, and what is given for its static parameters
pub record Instance : Type 0 where
  pub function : ℕ
  pub given : Closeds

abbrev pub statics_or_none : Option Function → List Static
statics_or_none None = []
statics_or_none (Some f) = f.statics

-- the static parameters of the function at a place
abbrev pub statics_at : Source → ℕ → List Static
statics_at s f = statics_or_none (slice_get s.functions f)

abbrev pub static_name : Static → Name
static_name (TypeParameter n p) = n
static_name (FunctionParameter n p ps r) = n

-- static parameters by their places, from k on
abbrev pub static_meanings : ℕ → List Static → List (Name × ℕ)
static_meanings k [] = []
static_meanings k (x ∷ xs) = (static_name x, k) ∷ static_meanings (suc k) xs

abbrev pub static_places : List Static → List (Name × ℕ)
static_places xs = with_meanings [] (static_meanings 0 xs)

abbrev pub if_type : Option Static → Option Closed → Option Closed
if_type None o = None
if_type (Some (TypeParameter n p)) o = o
if_type (Some (FunctionParameter n p ps r)) o = None

abbrev pub if_function : Option Static → Option Closed → Option Closed
if_function None o = None
if_function (Some (TypeParameter n p)) o = None
if_function (Some (FunctionParameter n p ps r)) o = o

abbrev pub type_at : List Static → Closeds → Option ℕ → Option Closed
type_at xs cs None = None
type_at xs cs (Some k) = if_type (slice_get xs k) (closed_at cs k)

abbrev pub function_at : List Static → Closeds → Option ℕ → Option Closed
function_at xs cs None = None
function_at xs cs (Some k) = if_function (slice_get xs k) (closed_at cs k)

-- what is given for the type parameter of a name; none where there is no such parameter
abbrev pub given_type : Source → Instance → Name → Option Closed
given_type s here n =
    type_at (statics_at s here.function) here.given (meaning n (static_places (statics_at s here.function)))

-- what is given for the function parameter of a name; none where there is no such parameter
abbrev pub given_function : Source → Instance → Name → Option Closed
given_function s here n =
    function_at (statics_at s here.function) here.given (meaning n (static_places (statics_at s here.function)))
