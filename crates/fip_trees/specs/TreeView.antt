-- The trees that the code's trees stand for: the same, without where their lists lie in memory.
use Rattle.std.specs.Prelude.{ℕ, Bool, true, false, List, [], ◌∷◌, map}
use Rattle.std.specs.declared.vec.Vec.{Vec}
use Rattle.std.specs.declared.alloc.Global.{Global}
use Rattle.fip_base.specs.declared.core_form.MatchKind.{MatchKind}
use Rattle.fip_base.specs.declared.core_form.MatchKind.TheVariants as K
use Rattle.fip_trees.specs.Tree as T
use Rattle.fip_trees.specs.declared.program.Binder.{Binder}
use Rattle.fip_trees.specs.declared.program.Argument.{Argument}
use Rattle.fip_trees.specs.declared.program.Argument.TheOpen as A
use Rattle.fip_trees.specs.declared.program.Argument.TheFolds.{fold-Argument}
use Rattle.fip_trees.specs.declared.program.Pattern.{Pattern}
use Rattle.fip_trees.specs.declared.program.Pattern.TheOpen as P
use Rattle.fip_trees.specs.declared.program.Pattern.TheFolds.{fold-Pattern}
use Rattle.fip_trees.specs.declared.program.Expression.{Expression}
use Rattle.fip_trees.specs.declared.program.Expression.TheOpen as E
use Rattle.fip_trees.specs.declared.program.Expression.TheFolds.{fold-Expression, fold-Block, fold-Binding, fold-Clause}
use Rattle.fip_trees.specs.declared.program.Block.{Block}
use Rattle.fip_trees.specs.declared.program.Binding.{Binding}
use Rattle.fip_trees.specs.declared.program.Clause.{Clause}
use Rattle.fip_trees.specs.declared.program.Instance.{Instance}
use Rattle.fip_trees.specs.declared.program.Program.{Program}

abbrev pub arguments_of : List T.Argument → T.Arguments
arguments_of [] = T.NoArguments
arguments_of (a ∷ as') = T.MoreArguments a (arguments_of as')

abbrev pub argument_step : A.Argument-F T.Argument → T.Argument
argument_step (A.Variable x n p) = T.Variable x n p
argument_step (A.Literal i p) = T.Literal i p
argument_step (A.Constructor u d c n p as') = T.Constructor u d c n p (arguments_of as'.items)

abbrev pub argument : Argument → T.Argument
argument = fold-Argument T.Argument argument_step

abbrev pub arguments : List Argument → T.Arguments
arguments as' = arguments_of (map argument as')

abbrev pub patterns_of : List T.Pattern → T.Patterns
patterns_of [] = T.NoPatterns
patterns_of (p ∷ ps) = T.MorePatterns p (patterns_of ps)

abbrev pub pattern_step : P.Pattern-F T.Pattern → T.Pattern
pattern_step (P.Binder b) = T.BinderPattern b
pattern_step (P.Literal i p) = T.LiteralPattern i p
pattern_step (P.Constructor u d c n p ps) = T.ConstructorPattern u d c n p (patterns_of ps.items)

abbrev pub pattern : Pattern → T.Pattern
pattern = fold-Pattern T.Pattern pattern_step

abbrev pub patterns : List Pattern → T.Patterns
patterns ps = patterns_of (map pattern ps)

abbrev pub is_destructive : MatchKind → Bool
is_destructive K.Borrowing = false
is_destructive K.Destructive = true

-- a let without its body
pub record BoundPart : Type 0 where
  pub binders : List Binder
  pub bound : T.Expression

pub record Case : Type 0 where
  pub pattern : T.Pattern
  pub body : T.Block

abbrev pub block_of : List BoundPart → T.Expression → T.Block
block_of [] e = T.Last e
block_of (b ∷ bs) e = T.Let b.binders b.bound (block_of bs e)

abbrev pub clauses_of : List Case → T.Clauses
clauses_of [] = T.NoClauses
clauses_of (c ∷ cs) = T.MoreClauses c.pattern c.body (clauses_of cs)

abbrev pub expression_step : E.Expression-F T.Expression BoundPart T.Block Case → T.Expression
expression_step (E.Give a) = T.Give (argument a)
expression_step (E.Tuple p as') = T.Tuple p (arguments as'.items)
expression_step (E.Operation o p l r) = T.Operation o p (argument l) (argument r)
expression_step (E.Call g n p as') = T.Call g n p (arguments as'.items)
expression_step (E.Match k u p a c cs) =
    T.Match (is_destructive k) u p (argument a) c.value.pattern c.value.body (clauses_of cs.items)
expression_step (E.Nested b) = T.Nested b.value

abbrev pub block_step : E.Block-F T.Expression BoundPart T.Block Case → T.Block
block_step b = block_of b.bindings.items b.last

abbrev pub binding_step : E.Binding-F T.Expression BoundPart T.Block Case → BoundPart
binding_step b = record { binders = b.binders.items; bound = b.bound }

abbrev pub clause_step : E.Clause-F T.Expression BoundPart T.Block Case → Case
clause_step c = record { pattern = pattern c.pattern; body = c.body }

abbrev pub expression : Expression → T.Expression
expression = fold-Expression T.Expression BoundPart T.Block Case expression_step binding_step block_step clause_step

abbrev pub block : Block → T.Block
block = fold-Block T.Expression BoundPart T.Block Case expression_step binding_step block_step clause_step

abbrev pub binding : Binding → BoundPart
binding = fold-Binding T.Expression BoundPart T.Block Case expression_step binding_step block_step clause_step

abbrev pub bindings : List Binding → List BoundPart
bindings = map binding

abbrev pub clause : Clause → Case
clause = fold-Clause T.Expression BoundPart T.Block Case expression_step binding_step block_step clause_step

abbrev pub clauses : List Clause → T.Clauses
clauses cs = clauses_of (map clause cs)

abbrev pub instance_of : Instance → T.Instance
instance_of d =
    record {
      name = d.name;
      place = d.place;
      root = d.root;
      kind = d.kind;
      params = d.params;
      binders = d.binders.items;
      credits = d.credits.items;
      results = d.results;
      results_place = d.results_place;
      signature_tuples = d.signature_tuples.items;
      variables = d.variables;
      body = block d.body;
    }

abbrev pub instances : List Instance → List T.Instance
instances = map instance_of

abbrev pub counts_row : Vec ℕ Global → List ℕ
counts_row r = r.items

abbrev pub program : Program → T.Program
program p =
    record {
      types = p.types;
      declaring = p.declaring.items;
      arities = p.arities.items;
      field_counts = map counts_row p.field_counts.items;
      instances = instances p.instances.items;
    }
