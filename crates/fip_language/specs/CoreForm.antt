-- The core form of the tree of a source text.
--
-- Calls, tuples, constructors and operators have parts. A part that is an argument stays; any other is bound by a let
-- before the whole. These lets are in order from left to right; where such a part has such parts of its own, their lets
-- are before its let, in the same list. An operation is bound wherever it is, except as the whole bound
-- expression of a let. A scrutinee that is no variable is bound, also where it is an argument. An if is a match.
-- Brackets round an expression that has no lets of its own vanish, and a block that is the last expression of a block
-- is part of that block.
--
-- f(x + 1, y) is let _ = x + 1; f(_, y). match 3 { .. } is let _ = 3; match _ { .. }.
-- Cons(1, Cons(x + 1, Nil)) is let _ = x + 1; let _ = Cons(_, Nil); Cons(1, _).
-- let y = a + b; c + 1 is let y = a + b; let _ = c + 1; _.
--
-- Binders are numbered from 0 in each function: its parameters first, then each binder where it is put, so
-- that the binders within a bound expression come before those that its let binds.
use Rattle.std.specs.Prelude.{ℕ, ◌+◌, false, cond, List, [], ◌∷◌, ◌++◌, length, map, Option, Some, None, codes}
use Rattle.std.specs.Str.{bytes_eq}
use Rattle.fip_language.specs.declared.Place.{Place}
use Rattle.fip_language.specs.Core as C
use Rattle.fip_language.specs.Core.{Name}
use Rattle.fip_language.specs.Surface as S

-- the name of a binder that nothing names
abbrev pub underscore : Name
underscore = codes "_"

-- scopes

-- a name, and the number of its binder
pub record Named : Type 0 where
  pub name : Name
  pub number : ℕ

-- the names in scope; a later one hides the earlier ones of its name
abbrev pub Scope : Type 0
Scope = List Named

abbrev pub latest : Option ℕ → Option ℕ → Option ℕ
latest (Some n) earlier = Some n
latest None earlier = earlier

-- the number of the latest binder of this name
abbrev pub lookup : Scope → Name → Option ℕ
lookup [] x = None
lookup (b ∷ bs) x = latest (lookup bs x) (cond (bytes_eq b.name x) (Some b.number) None)

abbrev pub with_binder : Scope → C.Binder → Scope
with_binder s b = cond (bytes_eq b.name underscore) s (s ++ record { name = b.name; number = b.number } ∷ [])

abbrev pub with_binders : Scope → List C.Binder → Scope
with_binders s [] = s
with_binders s (b ∷ bs) = with_binders (with_binder s b) bs

-- blocks

-- a let without what follows it
pub record Binding : Type 0 where
  pub binders : List C.Binder
  pub bound : C.Expression

abbrev pub block_of : List Binding → C.Expression → C.Block
block_of [] e = C.Last e
block_of (b ∷ bs) e = C.Let b.binders b.bound (block_of bs e)

abbrev pub bindings_in : C.Block → List Binding
bindings_in (C.Last e) = []
bindings_in (C.Let bs e rest) = record { binders = bs; bound = e } ∷ bindings_in rest

abbrev pub last_in : C.Block → C.Expression
last_in (C.Last e) = e
last_in (C.Let bs e rest) = last_in rest

abbrev pub arguments_of : List C.Argument → C.Arguments
arguments_of [] = C.NoArguments
arguments_of (a ∷ as') = C.MoreArguments a (arguments_of as')

abbrev pub patterns_of : List C.Pattern → C.Patterns
patterns_of [] = C.NoPatterns
patterns_of (p ∷ ps) = C.MorePatterns p (patterns_of ps)

-- the place of an expression's head: of a callee's name, an operator, a constructor, match, if, a literal's first
-- token; a block has its last expression's
abbrev pub argument_place : C.Argument → Place
argument_place (C.Variable b x p) = p
argument_place (C.Literal i p) = p
argument_place (C.Constructor x p as') = p

abbrev mutual
  pub place_of : C.Expression → Place
  place_of (C.Give a) = argument_place a
  place_of (C.Tuple p as') = p
  place_of (C.Operation o p a b) = p
  place_of (C.Call x p ts as') = p
  place_of (C.Match d p a cs) = p
  place_of (C.Nested b) = block_place b

  pub block_place : C.Block → Place
  block_place (C.Last e) = place_of e
  block_place (C.Let bs e rest) = block_place rest

-- Expressions. What an expression, a part or a row of parts gives: the lets that are before it, what it is then,
-- and the next number of a binder.

pub record Whole : Type 0 where
  pub lets : List Binding
  pub expression : C.Expression
  pub next : ℕ

pub record Part : Type 0 where
  pub lets : List Binding
  pub argument : C.Argument
  pub next : ℕ

pub record Parts : Type 0 where
  pub lets : List Binding
  pub arguments : List C.Argument
  pub next : ℕ

pub record Blocked : Type 0 where
  pub block : C.Block
  pub next : ℕ

pub record Cases : Type 0 where
  pub clauses : C.Clauses
  pub next : ℕ

-- the let that binds an expression to _, at the expression's place
abbrev pub made_let : C.Expression → ℕ → Binding
made_let e n =
    record { binders = record { number = n; name = underscore; place = place_of e; annotation = None } ∷ []; bound = e }

abbrev pub bound : List Binding → C.Expression → ℕ → Part
bound ls e n =
    record { lets = ls ++ made_let e n ∷ []; argument = C.Variable (Some n) underscore (place_of e); next = n + 1 }

-- An expression as a part: an argument is itself, any other is bound. A constructor is an argument only where it came
-- to be one with no let before it.
abbrev pub part_from : List Binding → C.Expression → ℕ → Part
part_from [] (C.Give a) n = record { lets = []; argument = a; next = n }
part_from ls e n = bound ls e n

abbrev pub as_part : Whole → Part
as_part w = part_from w.lets w.expression w.next

-- a part as a scrutinee: a variable is itself, any other is bound
abbrev pub variable_from : List Binding → C.Argument → ℕ → Part
variable_from ls (C.Variable b x p) n = record { lets = ls; argument = C.Variable b x p; next = n }
variable_from ls a n = bound ls (C.Give a) n

abbrev pub as_scrutinee : Whole → Part
as_scrutinee w = let a = as_part w in variable_from a.lets a.argument a.next

-- an expression as the last one of a block: an operation is bound, and the lets of a block go before it
abbrev pub last_from : List Binding → C.Expression → ℕ → Whole
last_from ls (C.Operation o p a b) n =
    let m = bound ls (C.Operation o p a b) n in
    record { lets = m.lets; expression = C.Give m.argument; next = m.next }
last_from ls (C.Nested b) n = record { lets = ls ++ bindings_in b; expression = last_in b; next = n }
last_from ls e n = record { lets = ls; expression = e; next = n }

abbrev pub as_last : Whole → Whole
as_last w = last_from w.lets w.expression w.next

abbrev pub as_block : Whole → Blocked
as_block w = let l = as_last w in record { block = block_of l.lets l.expression; next = l.next }

-- brackets round an expression without lets vanish
abbrev pub in_brackets : S.Block → Whole → Whole
in_brackets (S.Last e) w = w
in_brackets (S.Let bs e rest) w = let b = as_block w in record {
  lets = [];
  expression = C.Nested b.block;
  next =
      b.next;
}

abbrev pub binders : ℕ → List S.Bind → List C.Binder
binders n [] = []
binders n (b ∷ bs) = record { number = n; name = b.name; place = b.place; annotation = b.annotation }
    ∷ binders (n + 1) bs

-- patterns

-- a pattern, with what is in scope after it
pub record Bindable : Type 0 where
  pub pattern : C.Pattern
  pub scope : Scope
  pub next : ℕ

pub record Bindables : Type 0 where
  pub patterns : List C.Pattern
  pub scope : Scope
  pub next : ℕ

abbrev pub binder_pattern : Scope → ℕ → Name → Place → Bindable
binder_pattern s n x p =
    let b : C.Binder = record { number = n; name = x; place = p; annotation = None } in
    record { pattern = C.BinderPattern b; scope = with_binder s b; next = n + 1 }

abbrev mutual
  pub pattern : Scope → ℕ → S.Pattern → Bindable
  pattern s n (S.Wildcard p) = binder_pattern s n underscore p
  pattern s n (S.VariablePattern x p) = binder_pattern s n x p
  pattern s n (S.LiteralPattern i p) = record { pattern = C.LiteralPattern i p; scope = s; next = n }
  pattern s n (S.ConstructorPattern x p ps) =
      let r = patterns s n ps in
      record { pattern = C.ConstructorPattern x p (patterns_of r.patterns); scope = r.scope; next = r.next }

  pub patterns : Scope → ℕ → S.Patterns → Bindables
  patterns s n S.NoPatterns = record { patterns = []; scope = s; next = n }
  patterns s n (S.MorePatterns p ps) =
      let a = pattern s n p in
      let r = patterns a.scope a.next ps in
      record { patterns = a.pattern ∷ r.patterns; scope = r.scope; next = r.next }

-- the match that an if is: it and its two patterns have the place of the if
abbrev pub if_match : Place → C.Argument → C.Block → C.Block → C.Expression
if_match p v met unmet =
    C.Match false p v
    (C.MoreClauses (C.ConstructorPattern (codes "True") p C.NoPatterns) met
    (C.MoreClauses (C.ConstructorPattern (codes "False") p C.NoPatterns) unmet C.NoClauses))

abbrev mutual
  pub whole : Scope → ℕ → S.Expression → Whole
  whole s n (S.Variable x p) = record { lets = []; expression = C.Give (C.Variable (lookup s x) x p); next = n }
  whole s n (S.Literal i p) = record { lets = []; expression = C.Give (C.Literal i p); next = n }
  whole s n (S.Call x p ts es) =
      let r = parts s n es in
      record { lets = r.lets; expression = C.Call x p ts (arguments_of r.arguments); next = r.next }
  whole s n (S.Constructor x p es) =
      let r = parts s n es in
      record { lets = r.lets; expression = C.Give (C.Constructor x p (arguments_of r.arguments)); next = r.next }
  whole s n (S.Tuple p es) =
      let r = parts s n es in
      record { lets = r.lets; expression = C.Tuple p (arguments_of r.arguments); next = r.next }
  whole s n (S.Binary o p l r) =
      let a = as_part (whole s n l) in
      let b = as_part (whole s a.next r) in
      record { lets = a.lets ++ b.lets; expression = C.Operation o p a.argument b.argument; next = b.next }
  whole s n (S.Match d p e cs) =
      let v = as_scrutinee (whole s n e) in
      let k = cases s v.next cs in
      record { lets = v.lets; expression = C.Match d p v.argument k.clauses; next = k.next }
  whole s n (S.If p e met unmet) =
      let v = as_scrutinee (whole s n e) in
      let y = as_block (contents s v.next met) in
      let u = as_block (contents s y.next unmet) in
      record { lets = v.lets; expression = if_match p v.argument y.block u.block; next = u.next }
  whole s n (S.Bracket b) = in_brackets b (contents s n b)

  -- the parts of a call, a tuple or a constructor, from left to right
  pub parts : Scope → ℕ → S.Expressions → Parts
  parts s n S.NoExpressions = record { lets = []; arguments = []; next = n }
  parts s n (S.MoreExpressions e es) =
      let a = as_part (whole s n e) in
      let r = parts s a.next es in
      record { lets = a.lets ++ r.lets; arguments = a.argument ∷ r.arguments; next = r.next }

  -- the lets of a block, and its last expression
  pub contents : Scope → ℕ → S.Block → Whole
  contents s n (S.Last e) = whole s n e
  contents s n (S.Let bs e rest) =
      let w = whole s n e in
      let ns = binders w.next bs in
      let r = contents (with_binders s ns) (w.next + length bs) rest in
      record {
        lets = w.lets ++ record { binders = ns; bound = w.expression } ∷ r.lets;
        expression = r.expression;
        next = r.next;
      }

  pub cases : Scope → ℕ → S.Clauses → Cases
  cases s n S.NoClauses = record { clauses = C.NoClauses; next = n }
  cases s n (S.MoreClauses p b cs) =
      let q = pattern s n p in
      let k = as_block (contents q.scope q.next b) in
      let r = cases s k.next cs in
      record { clauses = C.MoreClauses q.pattern k.block r.clauses; next = r.next }

-- declarations

abbrev pub parameters : ℕ → List S.Parameter → List C.Parameter
parameters n [] = []
parameters n (p ∷ ps) =
    record {
      lent = p.lent;
      binder = record { number = n; name = p.name; place = p.place; annotation = None };
      type = p.type;
    }
    ∷ parameters (n + 1) ps

abbrev pub function : S.Function → C.Function
function f =
    let ps = parameters 0 f.parameters in
    record {
      kind = f.kind;
      credits = f.credits;
      name = f.name;
      place = f.place;
      statics = f.statics;
      parameters = ps;
      result = f.result;
      body = (as_block (contents (with_binders [] (map (λ p. p.binder) ps)) (length ps) f.body)).block;
    }

abbrev pub with_declaration : S.Declaration → C.Core → C.Core
with_declaration (S.DataDeclaration d) c = record c { types = d ∷ c.types }
with_declaration (S.FunctionDeclaration f) c = record c { functions = function f ∷ c.functions }

abbrev pub core_form : S.Program → C.Core
core_form [] = record { types = []; functions = [] }
core_form (d ∷ ds) = with_declaration d (core_form ds)
