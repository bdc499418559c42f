-- What a use in an instance reaches, and which rules it breaks. A use is a call with its static arguments, or a
-- function that is passed with its own. One that breaks a rule reaches nothing.
-- E11 and E12: a type among static arguments is unknown, or has more or fewer arguments than parameters. E20: a
-- function is unknown. E23: it has more or fewer static arguments than static parameters; its arguments are then not
-- looked at. E22: a function that is passed differs from its signature in the parameters' types, in the results' types
-- or in the marks on parameters that aren't scalar, or its header states a credit. That isn't asked where a type
-- argument beside it breaks a rule.
-- With `fun use[f: fun(int): int](x: int): int { f(x) }` the call use[g](1) breaks E20 at g where there is no g, E23 at
-- g where g has static parameters, and E22 at g where g takes two ints.
use Rattle.std.specs.Prelude.{ℕ, suc, Bool, true, false, not, ◌&&◌, ◌||◌, ◌==◌, List, [], ◌∷◌, ◌++◌, length, Option}
use Rattle.std.specs.Prelude.{Some, None, codes, slice_get, if◌then◌else◌}
use Rattle.fip_base.specs.fip_language.declared.Place.{Place}
use Rattle.fip_base.specs.fip_language.declared.CreditMark.{CreditMark}
use Rattle.fip_base.specs.fip_language.declared.rule.Rule.{Rule}
use Rattle.fip_base.specs.fip_language.declared.rule.Rule.TheVariants.{E11, E12, E20, E22, E23}
use Rattle.fip_base.specs.fip_language.Core.{Name, Written, WrittenInt, WrittenName, Writtens, NoWritten, MoreWritten, Result}
use Rattle.fip_base.specs.fip_language.Core.{OneResult, TupleResult, SignatureParameter, Static, TypeParameter}
use Rattle.fip_base.specs.fip_language.Core.{FunctionParameter, Parameter, Function}
use Rattle.fip_trees.specs.Names.{meaning}
use Rattle.fip_trees.specs.Least.{violation}
use Rattle.fip_trees.specs.declared.decls.TypeHead.{TypeHead}
use Rattle.fip_trees.specs.declared.least.Violation.{Violation}
use Rattle.closed_types.specs.declared.closed.Head.TheVariants as H
use Rattle.closed_types.specs.Closed.{Closed, Closeds, Int, Applied, NoClosed, MoreClosed, same_closed}
use Rattle.closed_types.specs.Source.{Source, Instance, statics_at, is_scalar, given_type, given_function}

-- a rule that instance i breaks
abbrev pub broken : Rule → Place → ℕ → Name → Violation
broken r p i n = violation r p i 0 n

abbrev pub when : Bool → Violation → List Violation
when true v = v ∷ []
when false v = []

abbrev pub count : Writtens → ℕ
count NoWritten = 0
count (MoreWritten w ws) = suc (count ws)

-- ---- types

-- a name with n arguments, for which this type is given, or which else means this data type
abbrev pub type_name_faults : ℕ → Option Closed → Option TypeHead → Name → Place → ℕ → List Violation
type_name_faults i (Some g) o x p n = when (not (n == 0)) (broken E12 p i x)
type_name_faults i None None x p n = broken E11 p i x ∷ []
type_name_faults i None (Some h) x p n = when (not (h.arity == n)) (broken E12 p i x)

-- what a type breaks that is written in instance i
abbrev mutual
  pub type_faults : Source → ℕ → Instance → Written → List Violation
  type_faults s i here (WrittenInt p) = []
  type_faults s i here (WrittenName x p ws) =
      types_faults s i here ws ++
      type_name_faults i (given_type s here x) (meaning x s.names.types) x p (count ws)

  pub types_faults : Source → ℕ → Instance → Writtens → List Violation
  types_faults s i here NoWritten = []
  types_faults s i here (MoreWritten w ws) = type_faults s i here w ++ types_faults s i here ws

abbrev pub applied_to : ℕ → Option Closeds → Option Closed
applied_to n None = None
applied_to n (Some cs) = Some (Applied (H.«Type» n) cs)

abbrev pub named_type : Option Closed → Option TypeHead → ℕ → Option Closeds → Option Closed
named_type (Some g) o n cs = if n == 0 then Some g else None
named_type None None n cs = None
named_type None (Some h) n cs = if h.arity == n then applied_to h.number cs else None

abbrev pub both : Option Closed → Option Closeds → Option Closeds
both None o = None
both (Some c) None = None
both (Some c) (Some cs) = Some (MoreClosed c cs)

-- a type that is written in an instance; none where it breaks a rule
abbrev mutual
  pub closed_type : Source → Instance → Written → Option Closed
  closed_type s here (WrittenInt p) = Some Int
  closed_type s here (WrittenName x p ws) =
      named_type (given_type s here x) (meaning x s.names.types) (count ws) (closed_types s here ws)

  pub closed_types : Source → Instance → Writtens → Option Closeds
  closed_types s here NoWritten = Some NoClosed
  closed_types s here (MoreWritten w ws) = both (closed_type s here w) (closed_types s here ws)

abbrev pub or_int : Option Closed → Closed
or_int None = Int
or_int (Some c) = c

-- A type in a header or in an annotation; the rules on these are asked where they are declared.
abbrev pub declared_type : Source → Instance → Written → Closed
declared_type s here w = or_int (closed_type s here w)

-- ---- signatures

abbrev pub result_types : Result → List Written
result_types (OneResult w) = w ∷ []
result_types (TupleResult p ws) = ws

abbrev pub no_credit : List CreditMark → Bool
no_credit [] = true
no_credit (m ∷ ms) = false

abbrev pub same_mark : Bool → Bool → Bool
same_mark true b = b
same_mark false b = not b

-- the same types, and the same mark on each that isn't scalar
abbrev pub same_parameters : Source → Instance → Instance → List SignatureParameter → List Parameter → Bool
same_parameters s there here [] [] = true
same_parameters s there here [] (q ∷ qs) = false
same_parameters s there here (p ∷ ps) [] = false
same_parameters s there here (p ∷ ps) (q ∷ qs) =
    (same_closed (declared_type s there p.type) (declared_type s here q.type) &&
    (same_mark p.lent q.lent || is_scalar s (declared_type s there p.type))) && same_parameters s there here ps qs

abbrev pub same_results : Source → Instance → Instance → List Written → List Written → Bool
same_results s there here [] [] = true
same_results s there here [] (q ∷ qs) = false
same_results s there here (p ∷ ps) [] = false
same_results s there here (p ∷ ps) (q ∷ qs) =
    same_closed (declared_type s there p) (declared_type s here q) && same_results s there here ps qs

abbrev pub header_fits : Source → Instance → Instance → List SignatureParameter → Result → Option Function → Bool
header_fits s there here ps r None = false
header_fits s there here ps r (Some f) =
    no_credit f.credits && (same_parameters s there here ps f.parameters &&
    same_results s there here (result_types r) (result_types f.result))

-- Whether a function that is passed fits a signature in the header of there.
abbrev pub fits : Source → Instance → List SignatureParameter → Result → Closed → Bool
fits s there ps r Int = false
fits s there ps r (Applied (H.«Type» n) cs) = false
fits s there ps r (Applied (H.Function f) cs) =
    header_fits s there (record { function = f; given = cs }) ps r (slice_get s.functions f)

-- ---- functions

-- What is given for type parameters, int in the place of functions; none where a type argument breaks a rule.
abbrev pub types_given : List Static → List (Option Closed) → Option Closeds
types_given [] os = Some NoClosed
types_given (x ∷ xs) [] = Some NoClosed
types_given (TypeParameter n p ∷ xs) (o ∷ os) = both o (types_given xs os)
types_given (FunctionParameter n p ps r ∷ xs) (o ∷ os) = both (Some Int) (types_given xs os)

abbrev pub static_fits : Source → Instance → Static → Option Closed → Bool
static_fits s there (TypeParameter n p) o = true
static_fits s there (FunctionParameter n p ps r) None = true
static_fits s there (FunctionParameter n p ps r) (Some c) = fits s there ps r c

abbrev pub all_fit : Source → Instance → List Static → List (Option Closed) → Bool
all_fit s there [] os = true
all_fit s there (x ∷ xs) [] = true
all_fit s there (x ∷ xs) (o ∷ os) = static_fits s there x o && all_fit s there xs os

abbrev pub fit_if_known : Source → ℕ → List Static → List (Option Closed) → Option Closeds → Bool
fit_if_known s f xs os None = false
fit_if_known s f xs os (Some cs) = all_fit s (record { function = f; given = cs }) xs os

abbrev pub all_given : List (Option Closed) → Option Closeds
all_given [] = Some NoClosed
all_given (o ∷ os) = both o (all_given os)

abbrev pub applied_function : ℕ → Option Closeds → Option Closed
applied_function f None = None
applied_function f (Some cs) = Some (Applied (H.Function f) cs)

-- function f with these static arguments, where they fit
abbrev pub declared_use : Source → ℕ → List (Option Closed) → Option Closed
declared_use s f os = if fit_if_known s f (statics_at s f) os (types_given (statics_at s f) os) then
    applied_function f (all_given os) else None

-- a name with n static arguments, for which this function is given, or which else means the function at this place
abbrev pub named_use : Source → Option Closed → Option ℕ → ℕ → List (Option Closed) → Option Closed
named_use s (Some g) o n os = if n == 0 then Some g else None
named_use s None None n os = None
named_use s None (Some f) n os = if length (statics_at s f) == n then declared_use s f os else None

abbrev pub statics_meant : Source → Option ℕ → List Static
statics_meant s None = []
statics_meant s (Some f) = statics_at s f

-- the function of a use in an instance; none where the use breaks a rule
abbrev mutual
  pub closed_function : Source → Instance → Written → Option Closed
  closed_function s here (WrittenInt p) = None
  closed_function s here (WrittenName x p ws) =
      named_use s (given_function s here x) (meaning x s.names.functions) (count ws)
      (closed_arguments s here (statics_meant s (meaning x s.names.functions)) ws)

  pub closed_arguments : Source → Instance → List Static → Writtens → List (Option Closed)
  closed_arguments s here xs NoWritten = []
  closed_arguments s here [] (MoreWritten w ws) = None ∷ closed_arguments s here [] ws
  closed_arguments s here (TypeParameter n p ∷ xs) (MoreWritten w ws) =
      closed_type s here w ∷ closed_arguments s here xs ws
  closed_arguments s here (FunctionParameter n p ps r ∷ xs) (MoreWritten w ws) =
      closed_function s here w ∷ closed_arguments s here xs ws

-- E22 at a function that is passed
abbrev pub misfit : ℕ → Written → Violation
misfit i (WrittenInt p) = broken E22 p i (codes "int")
misfit i (WrittenName x p ws) = broken E22 p i x

abbrev pub misfits : Source → ℕ → Instance → List Static → Writtens → List (Option Closed) → List Violation
misfits s i there [] ws os = []
misfits s i there (x ∷ xs) NoWritten os = []
misfits s i there (x ∷ xs) (MoreWritten w ws) [] = []
misfits s i there (x ∷ xs) (MoreWritten w ws) (o ∷ os) =
    when (not (static_fits s there x o)) (misfit i w) ++ misfits s i there xs ws os

abbrev pub misfits_if_known : Source → ℕ → ℕ → Writtens → List (Option Closed) → Option Closeds → List Violation
misfits_if_known s i f ws os None = []
misfits_if_known s i f ws os (Some cs) =
    misfits s i (record { function = f; given = cs }) (statics_at s f) ws os

-- what the arguments break, and then which of them don't fit
abbrev pub declared_use_faults : Source → ℕ → ℕ → Writtens → List (Option Closed) → List Violation → List Violation
declared_use_faults s i f ws os vs = vs ++ misfits_if_known s i f ws os (types_given (statics_at s f) os)

abbrev pub name_faults :
    Source → ℕ → Option Closed → Option ℕ → Name → Place → Writtens → List (Option Closed) → List Violation →
    List Violation
name_faults s i (Some g) o x p ws os vs = when (not (count ws == 0)) (broken E23 p i x)
name_faults s i None None x p ws os vs = broken E20 p i x ∷ []
name_faults s i None (Some f) x p ws os vs = if length (statics_at s f) == count ws then
    declared_use_faults s i f ws os vs else broken E23 p i x ∷ []

-- what a use breaks in instance i
abbrev mutual
  pub use_faults : Source → ℕ → Instance → Written → List Violation
  use_faults s i here (WrittenInt p) = broken E20 p i (codes "int") ∷ []
  use_faults s i here (WrittenName x p ws) =
      name_faults s i (given_function s here x) (meaning x s.names.functions) x p ws
      (closed_arguments s here (statics_meant s (meaning x s.names.functions)) ws)
      (arguments_faults s i here (statics_meant s (meaning x s.names.functions)) ws)

  pub arguments_faults : Source → ℕ → Instance → List Static → Writtens → List Violation
  arguments_faults s i here xs NoWritten = []
  arguments_faults s i here [] (MoreWritten w ws) = []
  arguments_faults s i here (TypeParameter n p ∷ xs) (MoreWritten w ws) =
      type_faults s i here w ++ arguments_faults s i here xs ws
  arguments_faults s i here (FunctionParameter n p ps r ∷ xs) (MoreWritten w ws) =
      use_faults s i here w ++ arguments_faults s i here xs ws
