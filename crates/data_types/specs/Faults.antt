-- What breaks the rules on declarations, as one list in the order of a walk; of E13 see Answers.
-- In `data a { X }` / `data b { Y; X }` the second X breaks E10; in `data list[a] { Nil; Cons(a, list) }` the list in
-- Cons breaks E12; `data a { X(nat) }` breaks E11 at nat, and no E13. Brackets at a type parameter break E12.
use Rattle.std.specs.Prelude.{ℕ, suc, Bool, true, false, not, ◌||◌, List, [], ◌∷◌, ◌++◌, length, Option, Some, None}
use Rattle.std.specs.Prelude.{slice_get}
use Rattle.std.specs.Prelude.{◌==◌, nat_lt, is_none, codes, if◌then◌else◌}
use Rattle.fip_language.specs.declared.Place.{Place}
use Rattle.fip_language.specs.declared.CreditMark.{CreditMark}
use Rattle.fip_language.specs.declared.rule.Rule.{Rule}
use Rattle.fip_language.specs.declared.rule.Rule.TheVariants.{E10, E11, E12, E14, E15, E63}
use Rattle.fip_language.specs.Core.{Name, Written, WrittenInt, WrittenName, Writtens, NoWritten, MoreWritten}
use Rattle.fip_language.specs.Core.{Result, OneResult, TupleResult, Binder, Argument, Variable, Literal, Constructor}
use Rattle.fip_language.specs.Core.{Arguments, NoArguments, MoreArguments, Pattern, BinderPattern, LiteralPattern}
use Rattle.fip_language.specs.Core.{ConstructorPattern, Patterns, NoPatterns, MorePatterns, Expression, Give, Tuple}
use Rattle.fip_language.specs.Core.{Operation, Call, Match, Nested, Block, Last, Let, Clauses, NoClauses, MoreClauses}
use Rattle.fip_language.specs.Core.{SignatureParameter, Static, TypeParameter, FunctionParameter, Parameter, Function}
use Rattle.fip_language.specs.Core.{TypeName, DataConstructor, Data, Core, writtens_of}
use Rattle.fip_language.specs.Mentions.{Mention, mention, all_of}
use Rattle.fip_trees.specs.Names.{Names, meaning, is_among}
use Rattle.fip_trees.specs.declared.decls.TypeHead.{TypeHead}
use Rattle.fip_language.specs.declared.limits.TheConstants.{MOST_FIELDS, MOST_CREDITS}
use Rattle.fip_trees.specs.declared.least.Violation.{Violation}
use Rattle.data_types.specs.Declarations.{Scope, data_scope, function_scope, declared_names}

abbrev pub broken : Rule → Place → Name → Violation
broken r p n = record { rule = r; place = p; instance = 0; size = 0; detail = n }

abbrev pub when : Bool → Violation → List Violation
when true v = v ∷ []
when false v = []

-- ---- E10: a name twice

-- the names that are in `seen` or before
abbrev pub repeats : List Name → List Mention → List Violation
repeats seen [] = []
repeats seen (m ∷ ms) =
    if is_among m.name seen then broken E10 m.place m.name ∷ repeats seen ms else repeats (seen ++ m.name ∷ []) ms

abbrev pub type_mentions : List Data → List Mention
type_mentions ds = all_of (λ (d : Data). mention d.name d.place ∷ []) ds

abbrev pub row_mentions : List DataConstructor → List Mention
row_mentions ks = all_of (λ (k : DataConstructor). mention k.name k.place ∷ []) ks

abbrev pub constructor_mentions : List Data → List Mention
constructor_mentions ds = all_of (λ (d : Data). row_mentions d.constructors) ds

abbrev pub function_mentions : List Function → List Mention
function_mentions fs = all_of (λ (f : Function). mention f.name f.place ∷ []) fs

abbrev pub type_name_mentions : List TypeName → List Mention
type_name_mentions ps = all_of (λ (p : TypeName). mention p.name p.place ∷ []) ps

abbrev pub static_mention : Static → Mention
static_mention (TypeParameter n p) = mention n p
static_mention (FunctionParameter n p ps r) = mention n p

abbrev pub static_mentions : List Static → List Mention
static_mentions ss = all_of (λ (s : Static). static_mention s ∷ []) ss

abbrev pub parameter_mentions : List Parameter → List Mention
parameter_mentions ps = all_of (λ (p : Parameter). mention p.binder.name p.binder.place ∷ []) ps

-- a second type, constructor or function of a name
abbrev pub name_faults : Core → List Violation
name_faults core =
    repeats (codes "bool" ∷ []) (type_mentions core.types) ++
    (repeats (codes "False" ∷ codes "True" ∷ []) (constructor_mentions core.types) ++
    repeats [] (function_mentions core.functions))

-- ---- E11 and E12: types that are written

abbrev pub count_written : Writtens → ℕ
count_written NoWritten = 0
count_written (MoreWritten w ws) = suc (count_written ws)

-- A name with n arguments that means this type parameter, or else this data type. A type parameter has no arguments.
abbrev pub use_faults : Option ℕ → Option TypeHead → Name → Place → ℕ → List Violation
use_faults (Some k) o x p n = when (not (n == 0)) (broken E12 p x)
use_faults None None x p n = broken E11 p x ∷ []
use_faults None (Some h) x p n = when (not (h.arity == n)) (broken E12 p x)

abbrev mutual
  pub written_faults : Scope → Written → List Violation
  written_faults s (WrittenInt p) = []
  written_faults s (WrittenName x p ws) =
      writtens_faults s ws ++ use_faults (meaning x s.parameters) (meaning x s.names.types) x p (count_written ws)

  pub writtens_faults : Scope → Writtens → List Violation
  writtens_faults s NoWritten = []
  writtens_faults s (MoreWritten w ws) = written_faults s w ++ writtens_faults s ws

abbrev pub each_faults : Scope → List Written → List Violation
each_faults s ws = writtens_faults s (writtens_of ws)

abbrev pub result_faults : Scope → Result → List Violation
result_faults s (OneResult w) = written_faults s w
result_faults s (TupleResult p ws) = each_faults s ws

-- ---- data types

-- E14: more than 16 fields
abbrev pub size_faults : List DataConstructor → List Violation
size_faults ks =
    all_of (λ (k : DataConstructor). when (nat_lt MOST_FIELDS (length k.fields)) (broken E14 k.place k.name)) ks

abbrev pub field_faults : Scope → List DataConstructor → List Violation
field_faults s ks = all_of (λ (k : DataConstructor). each_faults s k.fields) ks

-- a type parameter twice, the fields' types, constructors with many fields
abbrev pub data_faults : Names → Data → List Violation
data_faults ns d =
    repeats [] (type_name_mentions d.parameters) ++
    (field_faults (data_scope ns d) d.constructors ++ size_faults d.constructors)

abbrev pub all_data_faults : Names → List Data → List Violation
all_data_faults ns ds = all_of (data_faults ns) ds

-- ---- bodies

-- E15: an unknown constructor
abbrev pub constructor_faults : Scope → Name → Place → List Violation
constructor_faults s n p = when (is_none (meaning n s.names.constructors)) (broken E15 p n)

abbrev mutual
  pub argument_faults : Scope → Argument → List Violation
  argument_faults s (Variable x n p) = []
  argument_faults s (Literal i p) = []
  argument_faults s (Constructor n p as') = constructor_faults s n p ++ arguments_faults s as'

  pub arguments_faults : Scope → Arguments → List Violation
  arguments_faults s NoArguments = []
  arguments_faults s (MoreArguments a as') = argument_faults s a ++ arguments_faults s as'

abbrev mutual
  pub pattern_faults : Scope → Pattern → List Violation
  pattern_faults s (BinderPattern b) = []
  pattern_faults s (LiteralPattern i p) = []
  pattern_faults s (ConstructorPattern n p ps) = constructor_faults s n p ++ patterns_faults s ps

  pub patterns_faults : Scope → Patterns → List Violation
  patterns_faults s NoPatterns = []
  patterns_faults s (MorePatterns p ps) = pattern_faults s p ++ patterns_faults s ps

abbrev pub annotation_faults : Scope → Option Written → List Violation
annotation_faults s None = []
annotation_faults s (Some w) = written_faults s w

-- the annotations of a let's binders; a binder of a pattern has none
abbrev pub binders_faults : Scope → List Binder → List Violation
binders_faults s bs = all_of (λ (b : Binder). annotation_faults s b.annotation) bs

-- The static arguments of a call are types and functions, and are checked later.
abbrev mutual
  pub expression_faults : Scope → Expression → List Violation
  expression_faults s (Give a) = argument_faults s a
  expression_faults s (Tuple p as') = arguments_faults s as'
  expression_faults s (Operation o p a b) = argument_faults s a ++ argument_faults s b
  expression_faults s (Call n p statics as') = arguments_faults s as'
  expression_faults s (Match destructive p a cs) = argument_faults s a ++ clauses_faults s cs
  expression_faults s (Nested b) = block_faults s b

  pub block_faults : Scope → Block → List Violation
  block_faults s (Last e) = expression_faults s e
  block_faults s (Let bs e rest) = binders_faults s bs ++ (expression_faults s e ++ block_faults s rest)

  pub clauses_faults : Scope → Clauses → List Violation
  clauses_faults s NoClauses = []
  clauses_faults s (MoreClauses q b rest) = pattern_faults s q ++ (block_faults s b ++ clauses_faults s rest)

-- ---- functions

-- E63: a mark of a size that no cell has
abbrev pub mark_faults : List CreditMark → List Violation
mark_faults ms = all_of (λ (m : CreditMark). when (m.size == 0 || nat_lt MOST_FIELDS m.size)
    (broken E63 m.size_place [])) ms

abbrev pub place_faults : Option CreditMark → List Violation
place_faults None = []
place_faults (Some m) = broken E63 m.place [] ∷ []

-- and a seventeenth mark
abbrev pub credit_faults : List CreditMark → List Violation
credit_faults ms = mark_faults ms ++ place_faults (slice_get ms MOST_CREDITS)

abbrev pub signature_parameters_faults : Scope → List SignatureParameter → List Violation
signature_parameters_faults s ps = all_of (λ (p : SignatureParameter). written_faults s p.type) ps

abbrev pub signature_faults : Scope → Static → List Violation
signature_faults s (TypeParameter n p) = []
signature_faults s (FunctionParameter n p ps r) = signature_parameters_faults s ps ++ result_faults s r

abbrev pub signatures_faults : Scope → List Static → List Violation
signatures_faults s ss = all_of (signature_faults s) ss

abbrev pub parameters_faults : Scope → List Parameter → List Violation
parameters_faults s ps = all_of (λ (p : Parameter). written_faults s p.type) ps

-- the types in a header
abbrev pub header_faults : Scope → Function → List Violation
header_faults s f =
    signatures_faults s f.statics ++ (parameters_faults s f.parameters ++ result_faults s f.result)

-- credits, names that occur twice in the header, types, the body
abbrev pub function_faults : Names → Function → List Violation
function_faults ns f =
    credit_faults f.credits ++
    (repeats [] (static_mentions f.statics) ++
    (repeats [] (parameter_mentions f.parameters) ++
    (header_faults (function_scope ns f) f ++ block_faults (function_scope ns f) f.body)))

abbrev pub all_function_faults : Names → List Function → List Violation
all_function_faults ns fs = all_of (function_faults ns) fs

-- all violations of E10, E11, E12, E14, E15 and E63
abbrev pub written_violations : Core → List Violation
written_violations core =
    name_faults core ++
    (all_data_faults (declared_names core) core.types ++
    all_function_faults (declared_names core) core.functions)
