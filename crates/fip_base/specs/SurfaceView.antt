-- The surface tree that a tree of the code stands for.
--
-- An expression of the code is a list of steps in postfix order. A step takes its operands from the top of the
-- expressions that the steps before it left, and leaves one there: a, b, c, *, + is a + b * c. A list of steps that
-- is made from a source leaves one expression. So that each list stands for something, a missing operand is the
-- literal 0, and where several expressions are left, the list stands for the tuple of them.
use Rattle.std.specs.Prelude.{pos, Bool, List, [], ◌∷◌, map, reverse, option_map}
use Rattle.fip_language.specs.declared.Place.{Place}
use Rattle.fip_language.specs.declared.Operator.{Operator}
use Rattle.fip_language.specs.Surface as S
use Rattle.fip_base.specs.CoreView.{written, writtens, result_type, static, data_type}
use Rattle.fip_base.specs.declared.surface.Bind.{Bind}
use Rattle.fip_base.specs.declared.surface.Pattern.{Pattern}
use Rattle.fip_base.specs.declared.surface.Pattern.TheOpen as P
use Rattle.fip_base.specs.declared.surface.Pattern.TheFolds.{fold-Pattern}
use Rattle.fip_base.specs.declared.surface.Step.{Step}
use Rattle.fip_base.specs.declared.surface.Step.TheOpen as E
use Rattle.fip_base.specs.declared.surface.Step.TheFolds.{fold-Step, fold-Expression, fold-Block, fold-Let, fold-Clause}
use Rattle.fip_base.specs.declared.surface.Expression.{Expression}
use Rattle.fip_base.specs.declared.surface.Block.{Block}
use Rattle.fip_base.specs.declared.surface.Let.{Let}
use Rattle.fip_base.specs.declared.surface.Clause.{Clause}
use Rattle.fip_base.specs.declared.surface.Parameter.{Parameter}
use Rattle.fip_base.specs.declared.surface.Function.{Function}
use Rattle.fip_base.specs.declared.surface.Declaration.{Declaration}
use Rattle.fip_base.specs.declared.surface.Declaration.TheVariants as D
use Rattle.fip_base.specs.declared.surface.Program.{Program}

-- patterns and what a let binds

abbrev pub bind : Bind → S.Bind
bind b = record { name = b.name; place = b.place; annotation = option_map written b.annotation }

abbrev pub patterns_of : List S.Pattern → S.Patterns
patterns_of [] = S.NoPatterns
patterns_of (p ∷ ps) = S.MorePatterns p (patterns_of ps)

abbrev pub pattern_step : P.Pattern-F S.Pattern → S.Pattern
pattern_step (P.Wildcard p) = S.Wildcard p
pattern_step (P.Variable x p) = S.VariablePattern x p
pattern_step (P.Literal i p) = S.LiteralPattern i p
pattern_step (P.Constructor x p ps) = S.ConstructorPattern x p (patterns_of ps.items)

abbrev pub pattern : Pattern → S.Pattern
pattern = fold-Pattern S.Pattern pattern_step

abbrev pub patterns : List Pattern → S.Patterns
patterns ps = patterns_of (map pattern ps)

-- expressions

abbrev pub expressions_of : List S.Expression → S.Expressions
expressions_of [] = S.NoExpressions
expressions_of (e ∷ es) = S.MoreExpressions e (expressions_of es)

pub record LetPart : Type 0 where
  pub binds : List S.Bind
  pub bound : S.Expression

pub record Case : Type 0 where
  pub pattern : S.Pattern
  pub body : S.Block

abbrev pub block_of : List LetPart → S.Expression → S.Block
block_of [] e = S.Last e
block_of (l ∷ ls) e = S.Let l.binds l.bound (block_of ls e)

abbrev pub clauses_of : List Case → S.Clauses
clauses_of [] = S.NoClauses
clauses_of (c ∷ cs) = S.MoreClauses c.pattern c.body (clauses_of cs)

-- what a step does: it leaves an expression, or takes operands
pub data Action : Type 0 where
  Leaves : (e : S.Expression) → Action
  Operates : (operator : Operator) (place : Place) → Action
  Matches : (destructive : Bool) (place : Place) (clauses : S.Clauses) → Action
  Chooses : (place : Place) (met unmet : S.Block) → Action

-- the first place of a text
abbrev pub origin : Place
origin = record { line = 1; col = 1; at = 0 }

abbrev pub nothing : S.Expression
nothing = S.Literal (pos 0) origin

-- the expressions that are left, the last one first
abbrev pub top : List S.Expression → S.Expression
top [] = nothing
top (e ∷ es) = e

abbrev pub below : List S.Expression → List S.Expression
below [] = []
below (e ∷ es) = es

abbrev pub acted : Action → List S.Expression → S.Expression
acted (Leaves e) es = e
acted (Operates o p) es = S.Binary o p (top (below es)) (top es)
acted (Matches d p cs) es = S.Match d p (top es) cs
acted (Chooses p y n) es = S.If p (top es) y n

abbrev pub kept : Action → List S.Expression → List S.Expression
kept (Leaves e) es = es
kept (Operates o p) es = below (below es)
kept (Matches d p cs) es = below es
kept (Chooses p y n) es = below es

abbrev pub left_by : List Action → List S.Expression → List S.Expression
left_by [] es = es
left_by (a ∷ as') es = left_by as' (acted a es ∷ kept a es)

abbrev pub one_of : List S.Expression → S.Expression
one_of [] = nothing
one_of (e ∷ []) = e
one_of (e ∷ f ∷ es) = S.Tuple origin (expressions_of (reverse (e ∷ f ∷ es)))

abbrev pub step_action : E.Step-F Action S.Block Case S.Expression LetPart → Action
step_action (E.Variable x p) = Leaves (S.Variable x p)
step_action (E.Literal i p) = Leaves (S.Literal i p)
step_action (E.Call x p ts es) = Leaves (S.Call x p (writtens ts.items) (expressions_of es.items))
step_action (E.Constructor x p es) = Leaves (S.Constructor x p (expressions_of es.items))
step_action (E.Bracket b) = Leaves (S.Bracket b)
step_action (E.Tuple p es) = Leaves (S.Tuple p (expressions_of es.items))
step_action (E.Binary o p) = Operates o p
step_action (E.Match d p cs) = Matches d p (clauses_of cs.items)
step_action (E.If p y n) = Chooses p y n

abbrev pub block_step : E.Block-F Action S.Block Case S.Expression LetPart → S.Block
block_step b = block_of b.lets.items b.last

abbrev pub clause_step : E.Clause-F Action S.Block Case S.Expression LetPart → Case
clause_step c = record { pattern = pattern c.pattern; body = c.body }

abbrev pub expression_step : E.Expression-F Action S.Block Case S.Expression LetPart → S.Expression
expression_step e = one_of (left_by e.steps.items [])

abbrev pub let_step : E.Let-F Action S.Block Case S.Expression LetPart → LetPart
let_step l = record { binds = map bind l.binds.items; bound = l.bound }

abbrev pub action : Step → Action
action = fold-Step Action S.Block Case S.Expression LetPart step_action block_step clause_step expression_step let_step

abbrev pub block : Block → S.Block
block = fold-Block Action S.Block Case S.Expression LetPart step_action block_step clause_step expression_step let_step

abbrev pub clause : Clause → Case
clause = fold-Clause Action S.Block Case S.Expression LetPart step_action block_step clause_step expression_step
    let_step

abbrev pub expression : Expression → S.Expression
expression =
    fold-Expression Action S.Block Case S.Expression LetPart step_action block_step clause_step expression_step let_step

abbrev pub let_part : Let → LetPart
let_part = fold-Let Action S.Block Case S.Expression LetPart step_action block_step clause_step expression_step let_step

abbrev pub expressions : List Expression → S.Expressions
expressions es = expressions_of (map expression es)

abbrev pub clauses : List Clause → S.Clauses
clauses cs = clauses_of (map clause cs)

-- declarations

abbrev pub parameter : Parameter → S.Parameter
parameter p = record { lent = p.lent; name = p.name; place = p.place; type = written p.ty }

abbrev pub function : Function → S.Function
function f =
    record {
      kind = f.kind;
      credits = f.credits.items;
      name = f.name;
      place = f.place;
      statics = map static f.statics.items;
      parameters = map parameter f.parameters.items;
      result = result_type f.result;
      body = block f.body;
    }

abbrev pub declaration : Declaration → S.Declaration
declaration (D.Data d) = S.DataDeclaration (data_type d)
declaration (D.Function f) = S.FunctionDeclaration (function f)

abbrev pub program : Program → S.Program
program p = map declaration p.declarations.items
