-- The types of a program, int not counted: bool, the types in the headers of instances (signatures included), those in
-- annotations, those among static arguments, also of functions that are passed, and the types without parameters whose
-- constructors instances name; and with each type its arguments and the types of its fields. They are numbered from 1
-- in the order in which they are met.
-- With `data list[a] { Nil; Cons(a, list[a]) }` and `fun f(xs: list[bool]): int { 0 }` they are bool and list[bool].
use Rattle.std.specs.Prelude.{ℕ, zero, suc, ◌==◌, List, [], ◌∷◌, ◌++◌, map, Option, Some, None, slice_get}
use Rattle.std.specs.Prelude.{if◌then◌else◌, nat_eq}
use Rattle.fip_base.specs.fip_language.Core.{Written, Binder, Pattern, BinderPattern, LiteralPattern}
use Rattle.fip_base.specs.fip_language.Core.{ConstructorPattern, Patterns, NoPatterns, MorePatterns, Expression, Give, Tuple}
use Rattle.fip_base.specs.fip_language.Core.{Operation, Call, Match, Nested, Block, Last, Let, Clauses, NoClauses, MoreClauses}
use Rattle.fip_base.specs.fip_language.Core.{SignatureParameter, Static, TypeParameter, FunctionParameter, Parameter, Function}
use Rattle.fip_base.specs.fip_language.Mentions.{Mention, all_of, constructors_in_block}
use Rattle.fip_trees.specs.Names.{meaning}
use Rattle.fip_trees.specs.declared.decls.ConstructorId.{ConstructorId}
use Rattle.closed_types.specs.declared.closed.Head.TheVariants as H
use Rattle.closed_types.specs.Closed.{Closed, Closeds, Int, Applied, NoClosed, MoreClosed, same_closed}
use Rattle.closed_types.specs.Source.{Ty, Plain, Of, Tys, NoTys, MoreTys, Constructor, Declared, Source, Instance}
use Rattle.closed_types.specs.Source.{declared_at}
use Rattle.closed_types.specs.Source as S
use Rattle.closed_types.specs.Uses.{declared_type, result_types}
use Rattle.closed_types.specs.Numbering.{AreNumbered, firsts}

abbrev pub unless_int : Closed → List Closed
unless_int Int = []
unless_int (Applied h cs) = Applied h cs ∷ []

abbrev pub types_written : Source → Instance → List Written → List Closed
types_written s here ws = all_of (λ (w : Written). unless_int (declared_type s here w)) ws

-- ---- headers

abbrev pub written_in_static : Static → List Written
written_in_static (TypeParameter n p) = []
written_in_static (FunctionParameter n p ps r) =
    map (λ (q : SignatureParameter). q.type) ps ++ result_types r

abbrev pub written_in_header : Function → List Written
written_in_header f =
    map (λ (p : Parameter). p.type) f.parameters ++
    (result_types f.result ++ all_of written_in_static f.statics)

-- ---- bodies

abbrev pub annotation_of : Option Written → List Written
annotation_of None = []
annotation_of (Some w) = w ∷ []

abbrev pub annotations_at : List Binder → List Written
annotations_at bs = all_of (λ (b : Binder). annotation_of b.annotation) bs

abbrev mutual
  pub annotations_in_pattern : Pattern → List Written
  annotations_in_pattern (BinderPattern b) = annotation_of b.annotation
  annotations_in_pattern (LiteralPattern i p) = []
  annotations_in_pattern (ConstructorPattern n p ps) = annotations_in_patterns ps

  pub annotations_in_patterns : Patterns → List Written
  annotations_in_patterns NoPatterns = []
  annotations_in_patterns (MorePatterns p ps) = annotations_in_pattern p ++ annotations_in_patterns ps

abbrev mutual
  pub annotations_in_expression : Expression → List Written
  annotations_in_expression (Give a) = []
  annotations_in_expression (Tuple p as') = []
  annotations_in_expression (Operation o p a b) = []
  annotations_in_expression (Call n p ws as') = []
  annotations_in_expression (Match d p x cs) = annotations_in_clauses cs
  annotations_in_expression (Nested b) = annotations_in_block b

  pub annotations_in_block : Block → List Written
  annotations_in_block (Last e) = annotations_in_expression e
  annotations_in_block (Let bs e rest) =
      annotations_at bs ++ (annotations_in_expression e ++ annotations_in_block rest)

  pub annotations_in_clauses : Clauses → List Written
  annotations_in_clauses NoClauses = []
  annotations_in_clauses (MoreClauses p b rest) =
      annotations_in_pattern p ++ (annotations_in_block b ++ annotations_in_clauses rest)

abbrev pub arity_or_none : Option Declared → ℕ
arity_or_none None = 0
arity_or_none (Some d) = d.arity

abbrev pub arity : Source → ℕ → ℕ
arity s n = arity_or_none (declared_at s n)

-- the data type of a constructor, where it has no parameters
abbrev pub plain_number : Source → Option ConstructorId → List ℕ
plain_number s None = []
plain_number s (Some k) = if arity s k.«data» == 0 then k.«data» ∷ [] else []

-- each where it stands first
abbrev pub numbers_named : Source → Block → List ℕ
numbers_named s b =
    firsts nat_eq
    (all_of (λ (m : Mention). plain_number s (meaning m.name s.names.constructors)) (constructors_in_block b))

abbrev pub types_named : Source → Block → List Closed
types_named s b = map (λ n. Applied (H.«Type» n) NoClosed) (numbers_named s b)

-- ---- instances

abbrev pub types_in : Source → Instance → Option Function → List Closed
types_in s here None = []
types_in s here (Some f) =
    types_written s here (written_in_header f) ++
    (types_written s here (annotations_in_block f.body) ++ types_named s f.body)

abbrev pub types_of_instance : Source → Closed → List Closed
types_of_instance s Int = []
types_of_instance s (Applied (H.«Type» n) cs) = []
types_of_instance s (Applied (H.Function f) cs) =
    types_in s (record { function = f; given = cs }) (slice_get s.functions f)

abbrev pub types_among : Closeds → List Closed
types_among NoClosed = []
types_among (MoreClosed Int cs) = types_among cs
types_among (MoreClosed (Applied (H.«Type» n) ds) cs) = Applied (H.«Type» n) ds ∷ types_among cs
types_among (MoreClosed (Applied (H.Function f) ds) cs) = types_among cs

abbrev pub types_given : Closed → List Closed
types_given Int = []
types_given (Applied h cs) = types_among cs

-- where these are the instances, and these they and the functions that are passed to them
abbrev pub type_roots : Source → List Closed → List Closed → List Closed
type_roots s is ps =
    Applied (H.«Type» 1) NoClosed ∷ (all_of (types_of_instance s) is ++ all_of types_given ps)

-- ---- fields

-- what is given for parameter k
abbrev pub pick : Closeds → ℕ → Closed
pick NoClosed k = Int
pick (MoreClosed c cs) zero = c
pick (MoreClosed c cs) (suc k) = pick cs k

-- a field's type, where these are given for the parameters of its data type
abbrev mutual
  pub field_type : Closeds → Ty → Closed
  field_type cs Plain = Int
  field_type cs (S.Parameter k) = pick cs k
  field_type cs (Of n ts) = Applied (H.«Type» n) (field_types cs ts)

  pub field_types : Closeds → Tys → Closeds
  field_types cs NoTys = NoClosed
  field_types cs (MoreTys t ts) = MoreClosed (field_type cs t) (field_types cs ts)

abbrev pub unless_ints : Closeds → List Closed
unless_ints NoClosed = []
unless_ints (MoreClosed c cs) = unless_int c ++ unless_ints cs

-- the types of a constructor's fields but int
abbrev pub types_of_fields : Closeds → Constructor → List Closed
types_of_fields cs k = unless_ints (field_types cs k.fields)

abbrev pub fields_of : Closeds → Option Declared → List Closed
fields_of cs None = []
fields_of cs (Some d) = all_of (types_of_fields cs) d.constructors

-- a type's arguments and the types of its fields
abbrev pub parts_of : Source → Closed → List Closed
parts_of s Int = []
parts_of s (Applied (H.«Type» n) cs) = unless_ints cs ++ fields_of cs (declared_at s n)
parts_of s (Applied (H.Function f) cs) = unless_ints cs

-- these are the types, in the order of their numbers, from 1
abbrev pub AreTypes : Source → List Closed → List Closed → List Closed → Type 0
AreTypes s is ps ts = AreNumbered same_closed (type_roots s is ps) (parts_of s) ts
