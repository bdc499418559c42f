-- The shape of a typed body.
--
-- A variable is known by how many binders are before its own in the text. An occurrence with the number of a binder
-- means the innermost one in scope that has this number; one of none means nothing, and no rule speaks of it.
use Rattle.std.specs.Prelude.{ℕ, suc, Bool, true, false, not, ◌&&◌, List, [], ◌∷◌, ◌++◌, Option, Some, None, ◌==◌}
use Rattle.std.specs.Prelude.{if◌then◌else◌}
use Rattle.fip_trees.specs.fip_language.declared.Place.{Place}
use Rattle.fip_trees.specs.fip_language.declared.rule.Rule.TheVariants.{E54, E55}
use Rattle.fip_base.specs.declared.plain.Param.{Param}
use Rattle.fip_trees.specs.declared.program.Binder.{Binder}
use Rattle.fip_trees.specs.Tree.{Name, Argument, Variable, Literal, Constructor, Arguments, NoArguments, MoreArguments}
use Rattle.fip_trees.specs.Tree.{Pattern, BinderPattern, LiteralPattern, ConstructorPattern}
use Rattle.fip_trees.specs.Tree.{Patterns, NoPatterns, MorePatterns, Instance}
use Rattle.fip_trees.specs.Tree.{Expression, Give, Tuple, Operation, Call, Match, Nested, Block, Last, Let}
use Rattle.fip_trees.specs.Tree.{Clauses, NoClauses, MoreClauses}
use Rattle.fip_rules.specs.declared.scope.Ownership.{Ownership}
use Rattle.fip_rules.specs.Marks.{Mark}
use Rattle.fip_rules.specs.Shape as S
use Rattle.fip_rules.specs.Rules.{next}
use Rattle.fip_rules.specs.World.{World, lends, weaker, ownership}

-- the binders in scope, the innermost last, and how many binders are before
pub record Names : Type 0 where
  pub marks : List Mark
  pub next : ℕ

abbrev pub or_later : Option ℕ → Option ℕ → Option ℕ
or_later o None = o
or_later o (Some i) = Some i

-- what the innermost variable of this number is known by
abbrev pub known : List Mark → ℕ → Option ℕ
known [] x = None
known (m ∷ ms) x = or_later (if m.number == x then Some m.id else None) (known ms x)

-- ---- arguments

abbrev pub used_at : Option ℕ → ℕ → Place → Name → S.Shape
used_at None x p n = S.Skip
used_at (Some i) x p n = S.Use record { id = i; number = x; place = p; name = n }

abbrev pub lent_at : Option ℕ → ℕ → Place → Name → S.Shape
lent_at None x p n = S.Skip
lent_at (Some i) x p n = S.Lend record { id = i; number = x; place = p; name = n }

-- an occurrence with the number of a binder, or with none
abbrev pub used_by : List Mark → Option ℕ → Place → Name → S.Shape
used_by ms None p n = S.Skip
used_by ms (Some x) p n = used_at (known ms x) x p n

abbrev pub lent_by : List Mark → Option ℕ → Place → Name → S.Shape
lent_by ms None p n = S.Skip
lent_by ms (Some x) p n = lent_at (known ms x) x p n

-- what is no variable, at a place
abbrev pub token : Place → Name → Mark
token p n = record { id = 0; number = 0; place = p; name = n }

abbrev mutual
  -- an argument in an owned position
  pub owning : List Mark → Argument → S.Shape
  owning ms (Variable x n p) = used_by ms x p n
  owning ms (Literal i p) = S.Skip
  owning ms (Constructor t d c n p as') = owning_all ms as'

  pub owning_all : List Mark → Arguments → S.Shape
  owning_all ms NoArguments = S.Skip
  owning_all ms (MoreArguments a as') = S.Then (owning ms a) (owning_all ms as')

-- One in a borrowed position. A constructor of a type that isn't scalar is wrong there; what is in it is owned.
abbrev pub lending : World → List Mark → Argument → S.Shape
lending w ms (Variable x n p) = lent_by ms x p n
lending w ms (Literal i p) = S.Skip
lending w ms (Constructor t d c n p as') =
    if w.scalar t then S.Skip else S.Then (S.Fault E54 (token p n)) (owning_all ms as')

abbrev pub passing : World → List Mark → Bool → Argument → S.Shape
passing w ms true a = lending w ms a
passing w ms false a = owning ms a

-- the arguments of a call, from place j on
abbrev pub passing_all : World → List Mark → ℕ → ℕ → Arguments → S.Shape
passing_all w ms g j NoArguments = S.Skip
passing_all w ms g j (MoreArguments a as') = S.Then (passing w ms (lends w g j) a) (passing_all w ms g (suc j) as')

abbrev pub called : World → ℕ → Place → Name → S.Shape
called w g p n = if weaker w g then S.Fault E55 (token p n) else S.Skip

-- ---- binders

-- a binder, and how it binds
pub record Bind : Type 0 where
  pub ownership : Ownership
  pub binder : Binder

abbrev pub mark : ℕ → Binder → Mark
mark i b = record { id = i; number = b.number; place = b.place; name = b.name }

-- the scopes of some binders around a part; n binders are before them
abbrev pub binds : ℕ → List Bind → S.Shape → S.Shape
binds n [] e = e
binds n (b ∷ bs) e = S.Scope b.ownership (mark n b.binder) (binds (suc n) bs e)

-- within these scopes
abbrev pub within : Names → List Bind → Names
within c [] = c
within c (b ∷ bs) = within record { marks = c.marks ++ mark c.next b.binder ∷ []; next = suc c.next } bs

-- after a part: its binders have left scope
abbrev pub following : Names → S.Shape → Names
following c e = record { marks = c.marks; next = next c.next e }

-- binders whose values are taken, or only borrowed
abbrev pub taking : World → Bool → List Binder → List Bind
taking w taken [] = []
taking w taken (b ∷ bs) = record { ownership = ownership w taken b.ty; binder = b } ∷ taking w taken bs

abbrev mutual
  -- the binders of a pattern
  pub binders : Pattern → List Binder
  binders (BinderPattern b) = b ∷ []
  binders (LiteralPattern i p) = []
  binders (ConstructorPattern t d c n p ps) = binders_all ps

  pub binders_all : Patterns → List Binder
  binders_all NoPatterns = []
  binders_all (MorePatterns p ps) = binders p ++ binders_all ps

-- ---- expressions

-- whether a match uses up its scrutinee
abbrev pub takes : World → Bool → ℕ → Bool
takes w destructive t = destructive && not (w.scalar t)

-- a clause: the scopes of its pattern's binders `bs` around its body
abbrev pub clause_shape : Names → List Bind → (Names → S.Shape) → S.Shape
clause_shape c bs body = binds c.next bs (body (within c bs))

abbrev mutual
  pub shape : World → Names → Expression → S.Shape
  shape w c (Give a) = owning c.marks a
  shape w c (Tuple p as') = owning_all c.marks as'
  shape w c (Operation o p l r) = S.Then (owning c.marks l) (owning c.marks r)
  shape w c (Call g n p as') = S.Then (called w g p n) (passing_all w c.marks g 0 as')
  shape w c (Match k t p a q body cs) =
      S.Then (passing w c.marks (not (takes w k t)) a) (shape_clauses w (takes w k t) c
      (clause_shape c (taking w (takes w k t) (binders q)) (λ d. shape_block w d body)) cs)
  shape w c (Nested b) = shape_block w c b

  pub shape_block : World → Names → Block → S.Shape
  shape_block w c (Last e) = shape w c e
  shape_block w c (Let bs e rest) =
      S.Then (S.Bound (shape w c e))
      (clause_shape (following c (shape w c e)) (taking w true bs) (λ d. shape_block w d rest))

  -- the alternatives `done`, and the clauses after them
  pub shape_clauses : World → Bool → Names → S.Shape → Clauses → S.Shape
  shape_clauses w taken c done NoClauses = done
  shape_clauses w taken c done (MoreClauses q body cs) =
      shape_clauses w taken c (S.Either done
      (clause_shape (following c done) (taking w taken (binders q)) (λ d. shape_block w d body))) cs

-- ---- instances

abbrev pub parameters : World → List Param → List Binder → List Bind
parameters w ps [] = []
parameters w [] (b ∷ bs) = []
parameters w (p ∷ ps) (b ∷ bs) = record { ownership = ownership w (not p.lent) p.ty; binder = b } ∷ parameters w ps bs

abbrev pub no_names : Names
no_names = record { marks = []; next = 0 }

-- an instance's body in the scopes of its parameters
abbrev pub body : World → Instance → S.Shape
body w d = clause_shape no_names (parameters w d.params d.binders) (λ c. shape_block w c d.body)
