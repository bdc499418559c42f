-- The core program that a tree of the code stands for: the same tree, without where its lists lie in memory.
use Rattle.std.specs.Prelude.{Bool, true, false, List, [], ◌∷◌, map, option_map}
use Rattle.fip_language.specs.Core as C
pub use Rattle.fip_language.specs.Core.{writtens_of}
use Rattle.fip_base.specs.declared.core_form.Written.{Written}
use Rattle.fip_base.specs.declared.core_form.Written.TheOpen as W
use Rattle.fip_base.specs.declared.core_form.Written.TheFolds.{fold-Written}
use Rattle.fip_base.specs.declared.core_form.ResultType.{ResultType}
use Rattle.fip_base.specs.declared.core_form.ResultType.TheVariants as R
use Rattle.fip_base.specs.declared.core_form.Binder.{Binder}
use Rattle.fip_base.specs.declared.core_form.Argument.{Argument}
use Rattle.fip_base.specs.declared.core_form.Argument.TheOpen as A
use Rattle.fip_base.specs.declared.core_form.Argument.TheFolds.{fold-Argument}
use Rattle.fip_base.specs.declared.core_form.Pattern.{Pattern}
use Rattle.fip_base.specs.declared.core_form.Pattern.TheOpen as P
use Rattle.fip_base.specs.declared.core_form.Pattern.TheFolds.{fold-Pattern}
use Rattle.fip_base.specs.declared.core_form.MatchKind.{MatchKind}
use Rattle.fip_base.specs.declared.core_form.MatchKind.TheVariants as K
use Rattle.fip_base.specs.declared.core_form.Expression.{Expression}
use Rattle.fip_base.specs.declared.core_form.Expression.TheOpen as E
use Rattle.fip_base.specs.declared.core_form.Expression.TheFolds.{fold-Expression, fold-Block, fold-Binding}
use Rattle.fip_base.specs.declared.core_form.Expression.TheFolds.{fold-Clause}
use Rattle.fip_base.specs.declared.core_form.Block.{Block}
use Rattle.fip_base.specs.declared.core_form.Binding.{Binding}
use Rattle.fip_base.specs.declared.core_form.Clause.{Clause}
use Rattle.fip_base.specs.declared.core_form.SignatureParameter.{SignatureParameter}
use Rattle.fip_base.specs.declared.core_form.Static.{Static}
use Rattle.fip_base.specs.declared.core_form.Static.TheVariants as S
use Rattle.fip_base.specs.declared.core_form.Parameter.{Parameter}
use Rattle.fip_base.specs.declared.core_form.Function.{Function}
use Rattle.fip_base.specs.declared.core_form.TypeName.{TypeName}
use Rattle.fip_base.specs.declared.core_form.DataConstructor.{DataConstructor}
use Rattle.fip_base.specs.declared.core_form.Data.{Data}
use Rattle.fip_base.specs.declared.core_form.Core.{Core}

-- types

abbrev pub written_step : W.Written-F C.Written → C.Written
written_step (W.Int p) = C.WrittenInt p
written_step (W.Named x p ts) = C.WrittenName x p (writtens_of ts.items)

abbrev pub written : Written → C.Written
written = fold-Written C.Written written_step

abbrev pub writtens : List Written → C.Writtens
writtens ts = writtens_of (map written ts)

abbrev pub result_type : ResultType → C.Result
result_type (R.One t) = C.OneResult (written t)
result_type (R.Tuple p ts) = C.TupleResult p (map written ts.items)

-- binders, arguments, patterns

abbrev pub binder : Binder → C.Binder
binder b = record { number = b.number; name = b.name; place = b.place; annotation = option_map written b.annotation }

abbrev pub binders : List Binder → List C.Binder
binders = map binder

abbrev pub arguments_of : List C.Argument → C.Arguments
arguments_of [] = C.NoArguments
arguments_of (a ∷ as') = C.MoreArguments a (arguments_of as')

abbrev pub argument_step : A.Argument-F C.Argument → C.Argument
argument_step (A.Variable b x p) = C.Variable b x p
argument_step (A.Literal i p) = C.Literal i p
argument_step (A.Constructor x p as') = C.Constructor x p (arguments_of as'.items)

abbrev pub argument : Argument → C.Argument
argument = fold-Argument C.Argument argument_step

abbrev pub arguments : List Argument → C.Arguments
arguments as' = arguments_of (map argument as')

abbrev pub patterns_of : List C.Pattern → C.Patterns
patterns_of [] = C.NoPatterns
patterns_of (p ∷ ps) = C.MorePatterns p (patterns_of ps)

abbrev pub pattern_step : P.Pattern-F C.Pattern → C.Pattern
pattern_step (P.Binder b) = C.BinderPattern (binder b)
pattern_step (P.Literal i p) = C.LiteralPattern i p
pattern_step (P.Constructor x p ps) = C.ConstructorPattern x p (patterns_of ps.items)

abbrev pub pattern : Pattern → C.Pattern
pattern = fold-Pattern C.Pattern pattern_step

abbrev pub patterns : List Pattern → C.Patterns
patterns ps = patterns_of (map pattern ps)

-- expressions and blocks

abbrev pub is_destructive : MatchKind → Bool
is_destructive K.Borrowing = false
is_destructive K.Destructive = true

-- a let without its body
pub record BoundPart : Type 0 where
  pub binders : List C.Binder
  pub bound : C.Expression

pub record Case : Type 0 where
  pub pattern : C.Pattern
  pub body : C.Block

abbrev pub block_of : List BoundPart → C.Expression → C.Block
block_of [] e = C.Last e
block_of (b ∷ bs) e = C.Let b.binders b.bound (block_of bs e)

abbrev pub clauses_of : List Case → C.Clauses
clauses_of [] = C.NoClauses
clauses_of (c ∷ cs) = C.MoreClauses c.pattern c.body (clauses_of cs)

abbrev pub expression_step : E.Expression-F C.Expression BoundPart C.Block Case → C.Expression
expression_step (E.Give a) = C.Give (argument a)
expression_step (E.Tuple p as') = C.Tuple p (arguments as'.items)
expression_step (E.Operation o p a b) = C.Operation o p (argument a) (argument b)
expression_step (E.Call x p ts as') = C.Call x p (writtens ts.items) (arguments as'.items)
expression_step (E.Match k p a cs) = C.Match (is_destructive k) p (argument a) (clauses_of cs.items)
expression_step (E.Nested b) = C.Nested b.value

abbrev pub block_step : E.Block-F C.Expression BoundPart C.Block Case → C.Block
block_step b = block_of b.bindings.items b.last

abbrev pub binding_step : E.Binding-F C.Expression BoundPart C.Block Case → BoundPart
binding_step b = record { binders = binders b.binders.items; bound = b.bound }

abbrev pub clause_step : E.Clause-F C.Expression BoundPart C.Block Case → Case
clause_step c = record { pattern = pattern c.pattern; body = c.body }

abbrev pub expression : Expression → C.Expression
expression = fold-Expression C.Expression BoundPart C.Block Case expression_step binding_step block_step clause_step

abbrev pub block : Block → C.Block
block = fold-Block C.Expression BoundPart C.Block Case expression_step binding_step block_step clause_step

abbrev pub binding : Binding → BoundPart
binding = fold-Binding C.Expression BoundPart C.Block Case expression_step binding_step block_step clause_step

abbrev pub clause : Clause → Case
clause = fold-Clause C.Expression BoundPart C.Block Case expression_step binding_step block_step clause_step

abbrev pub clauses : List Clause → C.Clauses
clauses cs = clauses_of (map clause cs)

-- declarations

abbrev pub signature_parameter : SignatureParameter → C.SignatureParameter
signature_parameter p = record { lent = p.lent; type = written p.ty }

abbrev pub static : Static → C.Static
static (S.Type x p) = C.TypeParameter x p
static (S.Function x p ps r) = C.FunctionParameter x p (map signature_parameter ps.items) (result_type r)

abbrev pub parameter : Parameter → C.Parameter
parameter p = record { lent = p.lent; binder = binder p.binder; type = written p.ty }

abbrev pub function : Function → C.Function
function f =
    record {
      kind = f.kind;
      credits = f.credits.items;
      name = f.name;
      place = f.place;
      statics = map static f.statics.items;
      parameters = map parameter f.parameters.items;
      result = result_type f.result;
      body = block f.body;
    }

abbrev pub type_name : TypeName → C.TypeName
type_name t = record { name = t.name; place = t.place }

abbrev pub data_constructor : DataConstructor → C.DataConstructor
data_constructor c = record { name = c.name; place = c.place; fields = map written c.fields.items }

abbrev pub data_type : Data → C.Data
data_type d =
    record {
      name = d.name;
      place = d.place;
      parameters = map type_name d.parameters.items;
      constructors = map data_constructor d.constructors.items;
    }

abbrev pub core : Core → C.Core
core c = record { types = map data_type c.types.items; functions = map function c.functions.items }
