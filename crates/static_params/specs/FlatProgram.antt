-- The program without static parameters that a source is, where these are its instances and its types. An instance is
-- its function: a type that is written in it is the type's number, a name that it calls is the number of the instance
-- that the call reaches, and the name of a constructor is the number of its data type and its own number there. What
-- typing fills in later (the types of constructors, of matches and of variables) is 0.
-- With `fun g(): int { f[int](0) }`, where g and f[int] are the instances 0 and 1, the body of instance 0 calls 1.
use Rattle.std.specs.Prelude.{ℕ, suc, ◌+◌, ◌^◌, Bool, true, false, List, [], ◌∷◌, length, map, nat_lt}
use Rattle.std.specs.Prelude.{Option, Some, None, option_map, option_and_then, slice_get, if◌then◌else◌}
use Rattle.std.specs.List.{position}
use Rattle.fip_language.specs.declared.Place.{Place}
use Rattle.fip_language.specs.declared.CreditMark.{CreditMark}
use Rattle.fip_language.specs.Core as C
use Rattle.fip_language.specs.Core.{Name, Written, WrittenName, Writtens, Result, OneResult, TupleResult, Static}
use Rattle.fip_language.specs.Core.{TypeParameter, FunctionParameter, Function}
use Rattle.fip_language.specs.Mentions.{all_of}
use Rattle.fip_language.specs.Table.{Shape}
use Rattle.fip_base.specs.declared.plain.Param.{Param}
use Rattle.fip_trees.specs.Names.{meaning}
use Rattle.fip_trees.specs.Tree as T
use Rattle.fip_trees.specs.declared.decls.ConstructorId.{ConstructorId}
use Rattle.fip_trees.specs.declared.program.Binder.{Binder}
use Rattle.fip_trees.specs.declared.program.TupleResult as D
use Rattle.reached_instances.specs.closed_types.declared.closed.Head.TheVariants as H
use Rattle.reached_instances.specs.closed_types.Binders.{binders_in}
use Rattle.reached_instances.specs.closed_types.Closed.{Closed, Closeds, Int, Applied, NoClosed, MoreClosed, same_closed}
use Rattle.reached_instances.specs.closed_types.Source.{Tys, NoTys, MoreTys, Constructor, Declared, Source, Instance, declared_at}
use Rattle.reached_instances.specs.closed_types.Uses.{closed_function, declared_type, result_types}
use Rattle.reached_instances.specs.closed_types.TypeInstances.{field_types}

-- what is numbered: the instances from 0, the types from 1
pub record Numbers : Type 0 where
  pub instances : List Closed
  pub types : List Closed

-- the place of a tree in a list
abbrev pub number_in : List Closed → Closed → Option ℕ
number_in ds c = position (same_closed c) ds

abbrev pub from_one : Option ℕ → ℕ
from_one None = 0
from_one (Some n) = suc n

-- the number of a type; int, which isn't numbered, has 0
abbrev pub type_number : Numbers → Closed → ℕ
type_number ns c = from_one (number_in ns.types c)

abbrev pub or_zero : Option ℕ → ℕ
or_zero None = 0
or_zero (Some n) = n

-- the number of the instance that a call reaches; each call reaches one where no use breaks a rule
abbrev pub callee_number : Numbers → Option Closed → ℕ
callee_number ns o = or_zero (option_and_then (number_in ns.instances) o)

-- ---- names in an instance

abbrev pub flat_type : Source → Numbers → Instance → Written → ℕ
flat_type s ns here w = type_number ns (declared_type s here w)

abbrev pub flat_call : Source → Numbers → Instance → Name → Place → Writtens → ℕ
flat_call s ns here x p ws = callee_number ns (closed_function s here (WrittenName x p ws))

-- each constructor that is named is declared
abbrev pub declared_or_bool : Option ConstructorId → ConstructorId
declared_or_bool None = record { «data» = 1; number = 0 }
declared_or_bool (Some k) = k

abbrev pub constructor_of : Source → Name → ConstructorId
constructor_of s x = declared_or_bool (meaning x s.names.constructors)

-- ---- bodies

abbrev pub flat_binder : Source → Numbers → Instance → C.Binder → Binder
flat_binder s ns here b =
    record {
      number = b.number;
      name = b.name;
      place = b.place;
      annotation = option_map (flat_type s ns here) b.annotation;
      ty = 0;
    }

abbrev mutual
  pub flat_argument : Source → C.Argument → T.Argument
  flat_argument s (C.Variable b x p) = T.Variable b x p
  flat_argument s (C.Literal i p) = T.Literal i p
  flat_argument s (C.Constructor x p as') =
      T.Constructor 0 (constructor_of s x).«data» (constructor_of s x).number x p (flat_arguments s as')

  pub flat_arguments : Source → C.Arguments → T.Arguments
  flat_arguments s C.NoArguments = T.NoArguments
  flat_arguments s (C.MoreArguments a as') = T.MoreArguments (flat_argument s a) (flat_arguments s as')

abbrev mutual
  pub flat_pattern : Source → Numbers → Instance → C.Pattern → T.Pattern
  flat_pattern s ns here (C.BinderPattern b) = T.BinderPattern (flat_binder s ns here b)
  flat_pattern s ns here (C.LiteralPattern i p) = T.LiteralPattern i p
  flat_pattern s ns here (C.ConstructorPattern x p ps) =
      T.ConstructorPattern 0 (constructor_of s x).«data» (constructor_of s x).number x p (flat_patterns s ns here ps)

  pub flat_patterns : Source → Numbers → Instance → C.Patterns → T.Patterns
  flat_patterns s ns here C.NoPatterns = T.NoPatterns
  flat_patterns s ns here (C.MorePatterns p ps) = T.MorePatterns (flat_pattern s ns here p) (flat_patterns s ns here ps)

-- A match without clauses, which no source has, gives its scrutinee.
abbrev pub match_of : Bool → Place → T.Argument → T.Clauses → T.Expression
match_of d p x T.NoClauses = T.Give x
match_of d p x (T.MoreClauses q b cs) = T.Match d 0 p x q b cs

abbrev mutual
  pub flat_expression : Source → Numbers → Instance → C.Expression → T.Expression
  flat_expression s ns here (C.Give a) = T.Give (flat_argument s a)
  flat_expression s ns here (C.Tuple p as') = T.Tuple p (flat_arguments s as')
  flat_expression s ns here (C.Operation o p a b) = T.Operation o p (flat_argument s a) (flat_argument s b)
  flat_expression s ns here (C.Call x p ws as') = T.Call (flat_call s ns here x p ws) x p (flat_arguments s as')
  flat_expression s ns here (C.Match d p a cs) = match_of d p (flat_argument s a) (flat_clauses s ns here cs)
  flat_expression s ns here (C.Nested b) = T.Nested (flat_block s ns here b)

  pub flat_block : Source → Numbers → Instance → C.Block → T.Block
  flat_block s ns here (C.Last e) = T.Last (flat_expression s ns here e)
  flat_block s ns here (C.Let bs e rest) =
      T.Let (map (flat_binder s ns here) bs) (flat_expression s ns here e) (flat_block s ns here rest)

  pub flat_clauses : Source → Numbers → Instance → C.Clauses → T.Clauses
  flat_clauses s ns here C.NoClauses = T.NoClauses
  flat_clauses s ns here (C.MoreClauses p b rest) =
      T.MoreClauses (flat_pattern s ns here p) (flat_block s ns here b) (flat_clauses s ns here rest)

-- ---- instances

abbrev pub flat_parameter : Source → Numbers → Instance → C.Parameter → Param
flat_parameter s ns here p = record { ty = flat_type s ns here p.type; lent = p.lent }

-- the size of a credit, which has 8 bits: no header that is declared marks more than 16
abbrev pub credit_size : CreditMark → ℕ
credit_size m = if nat_lt m.size (2 ^ 8) then m.size else 255

abbrev pub bracket_of : Result → Option Place
bracket_of (OneResult w) = None
bracket_of (TupleResult p ws) = Some p

-- the tuple that a function parameter gives
abbrev pub tuple_in : Result → List D.TupleResult
tuple_in (OneResult w) = []
tuple_in (TupleResult p ws) = record { place = p; count = length ws } ∷ []

abbrev pub signature_tuple : Static → List D.TupleResult
signature_tuple (TypeParameter n p) = []
signature_tuple (FunctionParameter n p ps r) = tuple_in r

-- a function without static parameters is a root
abbrev pub is_root : List Static → Bool
is_root [] = true
is_root (x ∷ xs) = false

abbrev pub flat_instance : Source → Numbers → Instance → Function → T.Instance
flat_instance s ns here f =
    record {
      name = f.name;
      place = f.place;
      root = is_root f.statics;
      kind = f.kind;
      params = map (flat_parameter s ns here) f.parameters;
      binders = map (λ (p : C.Parameter). flat_binder s ns here p.binder) f.parameters;
      credits = map credit_size f.credits;
      results = map (flat_type s ns here) (result_types f.result);
      results_place = bracket_of f.result;
      signature_tuples = all_of signature_tuple f.statics;
      variables = binders_in f;
      body = flat_block s ns here f.body;
    }

abbrev pub instance_if : Source → Numbers → Instance → Option Function → List T.Instance
instance_if s ns here None = []
instance_if s ns here (Some f) = flat_instance s ns here f ∷ []

-- the instance that a tree stands for
abbrev pub instances_of : Source → Numbers → Closed → List T.Instance
instances_of s ns Int = []
instances_of s ns (Applied (H.«Type» n) cs) = []
instances_of s ns (Applied (H.Function f) cs) =
    instance_if s ns (record { function = f; given = cs }) (slice_get s.functions f)

-- ---- the table of types

abbrev pub numbers_of : Numbers → Closeds → List ℕ
numbers_of ns NoClosed = []
numbers_of ns (MoreClosed c cs) = type_number ns c ∷ numbers_of ns cs

abbrev pub flat_constructor : Numbers → Closeds → Constructor → Shape
flat_constructor ns cs k = record { name = k.name; fields = numbers_of ns (field_types cs k.fields) }

abbrev pub row_if : Numbers → Closeds → Option Declared → List (List Shape)
row_if ns cs None = []
row_if ns cs (Some d) = map (flat_constructor ns cs) d.constructors ∷ []

-- the constructors of the type that a tree stands for
abbrev pub rows_of : Source → Numbers → Closed → List (List Shape)
rows_of s ns Int = []
rows_of s ns (Applied (H.«Type» n) cs) = row_if ns cs (declared_at s n)
rows_of s ns (Applied (H.Function f) cs) = []

abbrev pub number_if : ℕ → Option Declared → List ℕ
number_if n None = []
number_if n (Some d) = n ∷ []

-- the number of its data type
abbrev pub declaring_of : Source → Closed → List ℕ
declaring_of s Int = []
declaring_of s (Applied (H.«Type» n) cs) = number_if n (declared_at s n)
declaring_of s (Applied (H.Function f) cs) = []

abbrev pub count_tys : Tys → ℕ
count_tys NoTys = 0
count_tys (MoreTys t ts) = suc (count_tys ts)

abbrev pub field_counts : Declared → List ℕ
field_counts d = map (λ (k : Constructor). count_tys k.fields) d.constructors

-- ---- the program

abbrev pub flat_program : Source → Numbers → T.Program
flat_program s ns =
    record {
      types = all_of (rows_of s ns) ns.types;
      declaring = all_of (declaring_of s) ns.types;
      arities = map (λ (d : Declared). d.arity) s.types;
      field_counts = map field_counts s.types;
      instances = all_of (instances_of s ns) ns.instances;
    }
